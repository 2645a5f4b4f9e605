-- How lines show statements: the lines are read back as them, no rule refuses a line, and the lines can be printed. Parts
-- that show statements are put together.
use Rattle.std.proofs.Common.{◌≡◌, ℕ, ◌+◌, ◌-◌, ◌≤◌, true, List, [], ◌∷◌, ◌++◌, refl, ap, ap₂, sym, subst, ◌∙◌, arith}
use Rattle.std.specs.List.{list_all}
use Rattle.std.proofs.lemmas.Bool.{and_from}
use Rattle.std.proofs.lemmas.List.{append-nil, append_assoc}
use Rattle.nim_job.specs.declared.job.Job.{Job}
use Rattle.nim_job.specs.declared.stmt.Stmt.{Stmt}
use Rattle.nim_parse.specs.declared.nest.Open.{Open}
use Rattle.nim_parse.specs.declared.nest.Open.TheVariants as opening
use Rattle.nim_parse.specs.declared.sections.Block.{Block}
use Rattle.nim_parse.specs.declared.sections.Statement.{Statement}
use Rattle.nim_parse.specs.declared.sections.Statement.TheVariants.{Else, End}
use Rattle.nim_check.specs.Body.{Body, no_body, onto, opened, parted, with_line}
use Rattle.nim_check.specs.Names.{Word}
use Rattle.nim_check.specs.declared.scope.Scope.{Scope}
use Rattle.nim_check.specs.DriverPlaces.{scope_with}
use Rattle.nim_printed.specs.Trees as trees
use Rattle.nim_printed.proofs.JobAtoms.{names_at, scalars_length, scope_at}
use Rattle.nim_printed.proofs.JobLines.{AreSound, IsSound, bodies_with, bodies_with-append, opened_after, scope_after, scope_after-append, sound_both}
use Rattle.nim_printed.proofs.JobLists.{all_both}
use Rattle.nim_printed.proofs.JobVars.{names_of_vars}

-- statements go before the others of the innermost body
abbrev pub put : List Stmt → List Body → List Body
put [] bodies = bodies
put (stmt ∷ stmts) bodies = onto stmt (put stmts bodies)

put-append : (xs ys : List Stmt) (bodies : List Body) → put (xs ++ ys) bodies ≡ put xs (put ys bodies)
put-append [] ys bodies = refl
put-append (x ∷ xs) ys bodies = ap (onto x) (put-append xs ys bodies)

pub put_first : (stmts : List Stmt) (body : Body) (bodies : List Body) → put stmts (body ∷ bodies) ≡ record body { first = stmts ++ body.first } ∷ bodies
put_first [] body bodies = refl
put_first (stmt ∷ stmts) body bodies = ap (onto stmt) (put_first stmts body bodies)

-- lines that show statements, so many deep, and with so many scalars set before and behind them
pub record Shows (job : Job) (blocks : List Block) (depth k behind : ℕ) (lines : List Statement) (stmts : List Stmt) : Type 0 where
  pub grows : k ≤ behind
  pub few : behind ≤ 64
  pub scope : scope_after (scope_at depth k) lines ≡ scope_at depth behind
  pub sound : AreSound (names_of_vars job.vars) blocks (scope_at depth k) lines
  pub read : (n : ℕ) → behind ≤ n → n ≤ 64 → (bodies : List Body) → bodies_with (names_at job n) lines bodies ≡ put stmts bodies
  pub printed : list_all trees.is_statement lines ≡ true
  pub nests : (open_now : List Open) (rest : List Statement) → opened_after open_now (lines ++ rest) ≡ opened_after open_now rest

pub shows_none : (job : Job) (blocks : List Block) (depth k : ℕ) → k ≤ 64 → Shows job blocks depth k k [] []
shows_none job blocks depth k within = record {
  grows = omega arith;
  few = within;
  scope = refl;
  sound = tt;
  read = λ n more most bodies. refl;
  printed = refl;
  nests = λ open_now rest. refl;
}

pub shows_both : (job : Job) (blocks : List Block) (depth k between behind : ℕ) (xs ys : List Statement) (ss ts : List Stmt)
    → Shows job blocks depth k between xs ss
    → Shows job blocks depth between behind ys ts → Shows job blocks depth k behind (xs ++ ys) (ss ++ ts)
shows_both job blocks depth k between behind xs ys ss ts first second = record {
  grows = omega (arith, first.grows, second.grows);
  few = second.few;
  scope = scope_after-append (scope_at depth k) xs ys ∙ ap (λ (p : Scope). scope_after p ys) first.scope ∙ second.scope;
  sound = sound_both (names_of_vars job.vars) blocks (scope_at depth k) xs ys first.sound
      (subst (λ (p : Scope). AreSound (names_of_vars job.vars) blocks p ys) (sym first.scope) second.sound);
  read = λ n more most bodies. bodies_with-append (names_at job n) xs ys bodies ∙ ap (bodies_with (names_at job n) xs) (second.read n more most bodies)
      ∙ first.read n (omega (arith, second.grows, more)) most (put ts bodies) ∙ sym (put-append ss ts bodies);
  printed = all_both trees.is_statement xs ys first.printed second.printed;
  nests = λ open_now rest. ap (opened_after open_now) (append_assoc xs ys rest) ∙ first.nests open_now (ys ++ rest) ∙ second.nests open_now rest;
}

-- ---- bodies

-- lines that show a body one deeper, which something of a kind opens and an `end` closes
pub record Holds (job : Job) (blocks : List Block) (kind : Open) (depth k behind : ℕ) (lines : List Statement) (body : Body) : Type 0 where
  pub grows : k ≤ behind
  pub few : behind ≤ 64
  pub scope : scope_after (scope_at (depth + 1) k) lines ≡ scope_at (depth + 1) behind
  pub sound : AreSound (names_of_vars job.vars) blocks (scope_at (depth + 1) k) lines
  pub read : (n : ℕ) → behind ≤ n → n ≤ 64 → (bodies : List Body) → bodies_with (names_at job n) lines (no_body ∷ bodies) ≡ body ∷ bodies
  pub printed : list_all trees.is_statement lines ≡ true
  pub nests : (open_now : List Open) (rest : List Statement) → opened_after (kind ∷ open_now) (lines ++ End ∷ rest) ≡ opened_after open_now rest

abbrev pub body_with : List Stmt → List Stmt → Body
body_with first second = record { first = first; second = second }

pub holds_part : (job : Job) (blocks : List Block) (kind : Open) (depth k behind : ℕ) (lines : List Statement) (stmts : List Stmt)
    → Shows job blocks (depth + 1) k behind lines stmts → Holds job blocks kind depth k behind lines (body_with stmts [])
holds_part job blocks kind depth k behind lines stmts shows = record {
  grows = shows.grows;
  few = shows.few;
  scope = shows.scope;
  sound = shows.sound;
  read = λ n more most bodies. shows.read n more most (no_body ∷ bodies) ∙ put_first stmts no_body bodies
      ∙ ap (λ (xs : List Stmt). body_with xs [] ∷ bodies) (append-nil stmts);
  printed = shows.printed;
  nests = λ open_now rest. shows.nests (kind ∷ open_now) (End ∷ rest);
}

-- an `else` or `end` is sound where few scalars are set
else_sound : (vars : List Word) (blocks : List Block) (depth k : ℕ) → k ≤ 64 → IsSound vars blocks (scope_at depth k) Else
else_sound vars blocks depth k within = record {
  free = refl;
  few = omega (arith, within, scalars_length k);
  variable = refl;
  block = refl;
  known = refl;
  shallow = refl;
}

end_sound : (vars : List Word) (blocks : List Block) (depth k : ℕ) → k ≤ 64 → IsSound vars blocks (scope_at depth k) End
end_sound vars blocks depth k within = record {
  free = refl;
  few = omega (arith, within, scalars_length k);
  variable = refl;
  block = refl;
  known = refl;
  shallow = refl;
}

-- both parts of an `if` with an `else`
pub holds_parts : (job : Job) (blocks : List Block) (depth k between behind : ℕ) (xs ys : List Statement) (ss ts : List Stmt)
    → Shows job blocks (depth + 1) k between xs ss
    → Shows job blocks (depth + 1) between behind ys ts → Holds job blocks opening.If depth k behind (xs ++ Else ∷ ys) (body_with ss ts)
holds_parts job blocks depth k between behind xs ys ss ts first second = record {
  grows = omega (arith, first.grows, second.grows);
  few = second.few;
  scope = scope_after-append (scope_at (depth + 1) k) xs (Else ∷ ys) ∙ ap (λ (p : Scope). scope_after p (Else ∷ ys)) first.scope ∙ second.scope;
  sound = sound_both (names_of_vars job.vars) blocks (scope_at (depth + 1) k) xs (Else ∷ ys) first.sound
      (subst (λ (p : Scope). AreSound (names_of_vars job.vars) blocks p (Else ∷ ys)) (sym first.scope)
      (else_sound (names_of_vars job.vars) blocks (depth + 1) between first.few, second.sound));
  read = λ n more most bodies. bodies_with-append (names_at job n) xs (Else ∷ ys) (no_body ∷ bodies)
      ∙ ap (λ (bs : List Body). bodies_with (names_at job n) xs (parted bs)) (second.read n more most (no_body ∷ bodies) ∙ put_first ts no_body bodies)
      ∙ first.read n (omega (arith, second.grows, more)) most (body_with [] (ts ++ []) ∷ bodies) ∙ put_first ss (body_with [] (ts ++ [])) bodies
      ∙ ap₂ (λ (a b : List Stmt). body_with a b ∷ bodies) (append-nil ss) (append-nil ts);
  printed = all_both trees.is_statement xs (Else ∷ ys) first.printed (and_from true (list_all trees.is_statement ys) refl second.printed);
  nests = λ open_now rest. ap (opened_after (opening.If ∷ open_now)) (append_assoc xs (Else ∷ ys) (End ∷ rest))
      ∙ first.nests (opening.If ∷ open_now) (Else ∷ (ys ++ End ∷ rest)) ∙ second.nests (opening.Else ∷ open_now) (End ∷ rest);
}

-- ---- statements

-- a line that opens a body, and makes a statement of it
pub record Opens (job : Job) (blocks : List Block) (kind : Open) (depth k : ℕ) (head : Statement) (make : Body → Stmt) : Type 0 where
  pub scope : scope_with (scope_at depth k) head ≡ scope_at (depth + 1) k
  pub sound : IsSound (names_of_vars job.vars) blocks (scope_at depth k) head
  pub read : (n : ℕ) → k ≤ n → n ≤ 64 → (bodies : List Body) → with_line (names_at job n) head bodies ≡ opened make bodies
  pub printed : trees.is_statement head ≡ true
  pub nests : (open_now : List Open) (rest : List Statement) → opened_after open_now (head ∷ rest) ≡ opened_after (kind ∷ open_now) rest

pub shows_opened : (job : Job) (blocks : List Block) (kind : Open) (depth k behind : ℕ) (head : Statement) (make : Body → Stmt) (lines : List Statement)
    (body : Body)
    → Opens job blocks kind depth k head make → Holds job blocks kind depth k behind lines body
    → Shows job blocks depth k behind (head ∷ (lines ++ End ∷ [])) (make body ∷ [])
shows_opened job blocks kind depth k behind head make lines body opens holds =
    let vars = names_of_vars job.vars in
    let closed : depth + 1 - 1 ≡ depth = omega arith in
    record {
      grows = holds.grows;
      few = holds.few;
      scope = ap (λ (p : Scope). scope_after p (lines ++ End ∷ [])) opens.scope ∙ scope_after-append (scope_at (depth + 1) k) lines (End ∷ [])
          ∙ ap (λ (p : Scope). scope_after p (End ∷ [])) holds.scope ∙ ap (λ (d : ℕ). scope_at d behind) closed;
      sound = (
        opens.sound,
        subst (λ (p : Scope). AreSound vars blocks p (lines ++ End ∷ [])) (sym opens.scope)
            (sound_both vars blocks (scope_at (depth + 1) k) lines (End ∷ []) holds.sound
            (subst (λ (p : Scope). AreSound vars blocks p (End ∷ [])) (sym holds.scope) (end_sound vars blocks (depth + 1) behind holds.few, tt))),
      );
      read = λ n more most bodies. ap (with_line (names_at job n) head)
          (bodies_with-append (names_at job n) lines (End ∷ []) bodies ∙ holds.read n more most bodies)
          ∙ opens.read n (omega (arith, holds.grows, more)) most (body ∷ bodies);
      printed = and_from (trees.is_statement head) (list_all trees.is_statement (lines ++ End ∷ [])) opens.printed
          (all_both trees.is_statement lines (End ∷ []) holds.printed refl);
      nests = λ open_now rest. opens.nests open_now ((lines ++ End ∷ []) ++ rest) ∙ ap (opened_after (kind ∷ open_now)) (append_assoc lines (End ∷ []) rest)
          ∙ holds.nests open_now rest;
    }

-- a line that is a statement
pub record Says (job : Job) (blocks : List Block) (depth k behind : ℕ) (line : Statement) (stmt : Stmt) : Type 0 where
  pub grows : k ≤ behind
  pub few : behind ≤ 64
  pub scope : scope_with (scope_at depth k) line ≡ scope_at depth behind
  pub sound : IsSound (names_of_vars job.vars) blocks (scope_at depth k) line
  pub read : (n : ℕ) → behind ≤ n → n ≤ 64 → (bodies : List Body) → with_line (names_at job n) line bodies ≡ onto stmt bodies
  pub printed : trees.is_statement line ≡ true
  pub nests : (open_now : List Open) (rest : List Statement) → opened_after open_now (line ∷ rest) ≡ opened_after open_now rest

pub shows_said : (job : Job) (blocks : List Block) (depth k behind : ℕ) (line : Statement) (stmt : Stmt) → Says job blocks depth k behind line stmt
    → Shows job blocks depth k behind (line ∷ []) (stmt ∷ [])
shows_said job blocks depth k behind line stmt says = record {
  grows = says.grows;
  few = says.few;
  scope = says.scope;
  sound = (says.sound, tt);
  read = says.read;
  printed = and_from (trees.is_statement line) true says.printed refl;
  nests = says.nests;
}
