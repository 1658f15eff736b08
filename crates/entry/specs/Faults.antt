-- The numbers of the causes
use Rattle.std.specs.Prelude.{ℕ, List, Some, Option}
use Rattle.entry.specs.Tables.{table_name}
use Rattle.entry.specs.declared.fault.CallCause.{CallCause}
use Rattle.entry.specs.declared.fault.CallCause.TheVariants.{Closed, Stranger, UnlawfulWidth, ListTooShort, NothingLeft}
use Rattle.entry.specs.declared.fault.CallTable.{CallTable}
use Rattle.entry.specs.declared.fault.EntryFault.{EntryFault}
use Rattle.entry.specs.declared.fault.EntryFault.TheVariants.{Tables, Call}
use Rattle.paragraph.specs.Faults.{number_of, table_name as paragraph_table}
use Rattle.refusals.specs.Line.{refusal_bytes}
use Rattle.refusals.specs.declared.fault.Fault.{Fault}

-- 6 closed, 7 a stranger, 8 an unlawful width, 9 a list too short, 10 nothing left
abbrev pub call_number : CallCause → ℕ
call_number Closed = 6
call_number Stranger = 7
call_number UnlawfulWidth = 8
call_number ListTooShort = 9
call_number NothingLeft = 10

abbrev pub CallFault : Type 0
CallFault = Fault CallCause CallTable

-- a refusal of tables has the number of its own cause, 1 to 5
abbrev pub entry_number : EntryFault → ℕ
entry_number (Tables f) = number_of f.cause
entry_number (Call f) = call_number f.cause

-- a refusal is printed as the one inside it
abbrev pub entry_refusal : EntryFault → Option (List ℕ)
entry_refusal (Tables f) = refusal_bytes (number_of f.cause) f.row (Some (paragraph_table f.table))
entry_refusal (Call f) = refusal_bytes (call_number f.cause) f.row (Some (table_name f.table))

abbrev pub fault : CallCause → ℕ → CallTable → CallFault
fault why row table = record { cause = why; row = row; table = table }
