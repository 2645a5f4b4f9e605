-- What a machine that has taken the items in front that ask nothing asks by its first item.
use Rattle.std.proofs.Common.{◌≡◌, ℕ, ◌<◌, ◌≤◌, zero, suc, true, false, ℤ, List, [], ◌∷◌, refl, ap, sym, ◌∙◌, arith}
use Rattle.std.specs.Prelude.{◌==◌, nat_le}
use Rattle.std.proofs.lemmas.Bool.{both_ways, cond-false, cond-true, le-leb, lt-leb}
use Rattle.nim_job.specs.declared.ask.Ask.{Ask}
use Rattle.nim_job.specs.declared.item.Item.{Item}
use Rattle.nim_job.specs.declared.item.Item.TheVariants.{Run}
use Rattle.nim_job.specs.declared.span.Span.{Span}
use Rattle.nim_job.specs.declared.stmt.Stmt.{Stmt, out-Stmt}
use Rattle.nim_job.specs.declared.stmt.Stmt.TheOpen.{Stmt-F}
use Rattle.nim_job.specs.Machine.{Machine, Wants, ask_now, asked_now, item_ask, items_ask, items_asked, stmt_ask, stmt_asked}
use Rattle.nim_job.specs.Quiet.{quiet_step}
use Rattle.nim_job.specs.Serial.{is_nil}

asks_open : (m : Machine) → m.full ≡ false → ask_now m ≡ items_ask m m.driver.todo
asks_open m open_still = cond-false m.full Ask.Limit (items_ask m m.driver.todo) open_still

asked_open : (m : Machine) → m.full ≡ false → asked_now m ≡ items_asked m m.driver.todo
asked_open m open_still = cond-false m.full m (items_asked m m.driver.todo) open_still

items_past : (m : Machine) (items : List Item) → is_nil items ≡ false → m.steps ≤ m.driver.count → Ask.Limit ≡ items_ask m items
items_past m [] left past = absurd (both_ways true left refl)
items_past m (item ∷ rest) left past = sym (cond-true (nat_le m.steps m.driver.count) Ask.Limit (item_ask m item) (le-leb m.steps m.driver.count past))

-- one more statement would pass the most that are counted
pub asks_limit : (m : Machine) → m.full ≡ false → is_nil m.driver.todo ≡ false → m.steps ≤ m.driver.count → Ask.Limit ≡ ask_now m
asks_limit m open_still left past = items_past m m.driver.todo left past ∙ sym (asks_open m open_still)

items_first : (m : Machine) (items rest : List Item) (stmt : Stmt) → items ≡ Run stmt ∷ rest → m.driver.count < m.steps
    → stmt_ask m.driver.scalars m.spans (out-Stmt stmt) ≡ items_ask m items
items_first m items rest stmt is room =
    sym (ap (items_ask m) is
    ∙ cond-false (nat_le m.steps m.driver.count) Ask.Limit (stmt_ask m.driver.scalars m.spans (out-Stmt stmt)) (lt-leb m.steps m.driver.count room))

-- a statement comes first
pub asks_stmt : (m : Machine) (rest : List Item) (stmt : Stmt) → m.full ≡ false → m.driver.todo ≡ Run stmt ∷ rest → m.driver.count < m.steps
    → stmt_ask m.driver.scalars m.spans (out-Stmt stmt) ≡ ask_now m
asks_stmt m rest stmt open_still is room = items_first m m.driver.todo rest stmt is room ∙ sym (asks_open m open_still)

pub asked_stmt : (m : Machine) (rest : List Item) (stmt : Stmt) → m.full ≡ false → m.driver.todo ≡ Run stmt ∷ rest → m.driver.count < m.steps
    → record m { driver = quiet_step m.driver; asked = stmt_asked (out-Stmt stmt) } ≡ asked_now m
asked_stmt m rest stmt open_still is room =
    sym (asked_open m open_still ∙ ap (items_asked m) is
    ∙ cond-false (nat_le m.steps m.driver.count) m (record m { driver = quiet_step m.driver; asked = stmt_asked (out-Stmt stmt) })
    (lt-leb m.steps m.driver.count room))

-- an ask wants the kind of answer that is kept, where the statement isn't one that asks nothing
pub stmt_wants : (scalars : List ℤ) (spans : List Span) (stmt : Stmt-F Stmt) → Wants (stmt_ask scalars spans stmt) (stmt_asked stmt)
stmt_wants scalars spans (Stmt-F.Do block args) = record { cell = refl; text = refl; nothing = λ cell text. absurd (both_ways true cell refl) }
stmt_wants scalars spans (Stmt-F.Get s var part row cell) = record { cell = refl; text = refl; nothing = λ asks text. absurd (both_ways true asks refl) }
stmt_wants scalars spans Stmt-F.Checkpoint = record { cell = refl; text = refl; nothing = λ cell text. absurd (both_ways true cell refl) }
stmt_wants scalars spans (Stmt-F.Output var) = record { cell = refl; text = refl; nothing = λ cell text. absurd (both_ways true text refl) }
stmt_wants scalars spans stmt = record { cell = refl; text = refl; nothing = λ cell text. refl }

-- a list whose length isn't 0 has an item
pub some_left : (n : ℕ) → (n == 0) ≡ false → 0 < n
some_left zero left = absurd (both_ways true left refl)
some_left (suc n) left = omega arith
