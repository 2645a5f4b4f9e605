-- What a whole file gives, as the clauses say it.
use Rattle.std.proofs.Common.{◌≡◌, ◌∙◌, ℕ, ◌+◌, false, List, length, refl, Option, None, Some, Ok}
use Rattle.std.specs.Prelude.{nat_lt, IfOk, Result, Err}
use Rattle.nim_base.specs.Value.{Grid}
use Rattle.nim_lex.specs.declared.fault.Refusal.{Refusal}
use Rattle.nim_lex.specs.Refusals.{Answers}
use Rattle.nim_lex.specs.Source.{line_count, lines_of}
use Rattle.nim_data.specs.declared.fault.DataFault.{DataFault}
use Rattle.nim_data.specs.declared.fault.DataFault.TheVariants.{At, NoMemory}
use Rattle.nim_data.specs.declared.wanted.Wanted.{Wanted}
use Rattle.nim_data.specs.Fault.{told}
use Rattle.nim_data.specs.Reading.{GaveValues, nothing, read_from}
use Rattle.nim_data.specs.Wanted.{data_file_refusal, values_in}
use Rattle.nim_data.proofs.Kept.{judge, read_is}

pub of_file : (ws : List Wanted) (bytes : List ℕ) → nat_lt 33554432 (length bytes) ≡ false
    → read_from (line_count bytes + 1) ws nothing (lines_of bytes) ≡ judge (data_file_refusal ws bytes) (values_in bytes)
of_file ws bytes short = read_is (line_count bytes + 1) ws (lines_of bytes) ∙ (rw short refl)

pub refused_by : (o : Option Refusal) (values : List Grid) (refusal : Refusal) → judge o values ≡ Err refusal → o ≡ Some refusal
refused_by None values refusal is = cc
refused_by (Some other) values refusal is = cc

taken_by : (o : Option Refusal) (values all : List Grid) → judge o values ≡ Ok all → (o ≡ None) × (all ≡ values)
taken_by None values all is = let same : all ≡ values = cc in (refl, same)
taken_by (Some other) values all is = cc

pub gave_answers : (o : Option Refusal) (values : List Grid) (result : Result (List Grid) DataFault) → GaveValues (judge o values) result
    → Answers told o result
gave_answers o values (Ok all) gave = (taken_by o values all gave).0
gave_answers o values (Err (At refusal)) gave = refused_by o values refusal gave
gave_answers o values (Err NoMemory) gave = tt

pub gave_values : (o : Option Refusal) (values : List Grid) (result : Result (List Grid) DataFault) → GaveValues (judge o values) result
    → IfOk result (λ all. all ≡ values)
gave_values o values (Ok all) gave = (taken_by o values all gave).1
gave_values o values (Err fault) gave = tt
