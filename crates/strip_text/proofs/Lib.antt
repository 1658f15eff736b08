mod Decimals
mod JoinedRows
mod Narrowing
