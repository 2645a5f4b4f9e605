-- Worked by hand, and computed: small schedules, with what they say or the line that is refused.
use Rattle.std.proofs.Common.{◌≡◌, ℕ, List, [], ◌∷◌, length, true, refl, None, Some}
use Rattle.std.specs.Prelude.{codes, nat_lt}
use Rattle.nim_schedule.specs.declared.event.Event.TheVariants.{Begin, Data, Finish, Lose, Order, Propose, Report}
use Rattle.nim_schedule.specs.declared.event.Line.{Line}
use Rattle.nim_schedule.specs.declared.event.Line.TheVariants.{Auto, One}
use Rattle.nim_schedule.specs.declared.kind.LineKind.TheVariants as kind
use Rattle.nim_schedule.specs.Lines.{line_kind, line_as, line_by, line_rule, lines_in, one_number, proposal, two_numbers}
use Rattle.nim_schedule.specs.Schedule.{schedule_refusal, schedule_of}
use Rattle.nim_schedule.specs.Words.{block_word, small_number, words_from, words_in}

-- a schedule that says these lines
abbrev Says : List ℕ → List Line → Type 0
Says text lines = (schedule_refusal text ≡ None) × (schedule_of text ≡ lines)

-- a schedule whose first refused line is this one
abbrev IsRefusedAt : List ℕ → ℕ → Type 0
IsRefusedAt text line = schedule_refusal text ≡ Some (record { line = line; rule = 91 })

-- ---- what is taken

nothing : Says [] []
nothing = (refl, refl)

each_line : Says (codes "order 0\nreport 1\ndata 0 1\nbegin 15 16\nfinish 2\nauto 999999999\n")
    (One (Order 0) ∷ One (Report 1) ∷ One (Data 0 1) ∷ One (Begin 15 16) ∷ One (Finish 2) ∷ Auto 999999999 ∷ [])
unfolding line_kind line_as line_by line_rule lines_in one_number two_numbers small_number words_from
each_line = (refl, refl)

blanks_and_comments : Says (codes "# first\n\n \t order\t7 # of two\r\n#\norder 0012#\n  \r\nauto 0") (One (Order 7) ∷ One (Order 12) ∷ Auto 0 ∷ [])
unfolding line_kind line_as line_by line_rule lines_in one_number two_numbers small_number words_from
blanks_and_comments = (refl, refl)

-- ---- what is refused

too_long : (bytes : List ℕ) → nat_lt 16777216 (length bytes) ≡ true → schedule_refusal bytes ≡ Some (record { line = 0; rule = 90 })
too_long bytes long = rw long refl

-- lines count from 1, and those without words count too
unknown_word : IsRefusedAt (codes "# first\n\norder 1\nOrder 1\nreport\n") 4
unfolding line_kind line_as line_by line_rule one_number two_numbers small_number words_from
unknown_word = refl

one_number_alone : (IsRefusedAt (codes "order") 1) × (IsRefusedAt (codes "auto 1 2") 1) × (IsRefusedAt (codes "report x") 1)
unfolding line_kind line_as line_by line_rule one_number two_numbers small_number words_from
one_number_alone = (refl, refl, refl)

ten_digits : IsRefusedAt (codes "auto 0000000001") 1
unfolding line_kind line_as line_by line_rule one_number two_numbers small_number words_from
ten_digits = refl

two_numbers_alone : (IsRefusedAt (codes "data 1") 1) × (IsRefusedAt (codes "data 1 2 3") 1) × (IsRefusedAt (codes "data 1 -2") 1)
unfolding line_kind line_as line_by line_rule one_number two_numbers small_number words_from
two_numbers_alone = (refl, refl, refl)

batches_of_1_to_16 : (IsRefusedAt (codes "begin 0 1\nbegin 0 0") 2) × (IsRefusedAt (codes "begin 0 16\nbegin 0 17") 2)
unfolding line_kind line_as line_by line_rule one_number two_numbers small_number words_from
batches_of_1_to_16 = (refl, refl)

not_yet : (IsRefusedAt (codes "lose 1") 1) × (IsRefusedAt (codes "propose heat 3 1") 1)
unfolding line_kind line_as line_by line_rule one_number proposal two_numbers block_word small_number words_from
not_yet = (refl, refl)

-- ---- the lines that aren't taken yet

lost : line_as kind.Lose (words_in (codes " 3 ")) ≡ Some (One (Lose 3))
unfolding line_as one_number small_number words_from
lost = refl

proposed : line_as kind.Propose (words_in (codes "heat_2x 17 1")) ≡ Some (One (Propose (codes "heat_2x") 17 1))
unfolding line_as one_number proposal two_numbers block_word small_number words_from
proposed = refl

long_block : line_as kind.Propose (words_in (codes "abcdefghijklmnopq 0 0")) ≡ None
unfolding line_as one_number proposal two_numbers block_word small_number words_from
long_block = refl
