-- docs/RULES.md, "Measures"
-- Settings of a measure, and their refusal
use Rattle.std.specs.Prelude.{◌≡◌, ℕ, Bool, true, false, List, codes, Ok, Err, Result}
use Rattle.measure.specs.declared.settings.SettingCause.{SettingCause}
use Rattle.measure.specs.declared.settings.SettingCause.TheVariants.{OutOfRange}
use Rattle.measure.specs.declared.settings.SettingName.{SettingName}
use Rattle.measure.specs.declared.settings.SettingName.TheVariants.{Size, Spacing}
use Rattle.refusals.specs.declared.fault.Fault.{Fault}

-- a setting outside its range is refusal 12
abbrev pub cause_number : SettingCause → ℕ
cause_number OutOfRange = 12

-- the names of settings as they are printed
abbrev pub setting_name : SettingName → List ℕ
setting_name Size = codes "size"
setting_name Spacing = codes "spacing"

-- the fault of a setting outside its range: a setting has no rows, so the row is 0
abbrev pub outside : SettingName → Fault SettingCause SettingName
outside name = record { cause = OutOfRange; row = 0; table = name }

-- What setting up answers: what is made, where the setting is in its range, and else its fault
abbrev pub SetUp : {T : Type 0} → Bool → SettingName → (T → Type 0) → Result T (Fault SettingCause SettingName) → Type 0
SetUp within name P (Ok t) = (within ≡ true) × P t
SetUp within name P (Err e) = (within ≡ false) × (e ≡ outside name)
