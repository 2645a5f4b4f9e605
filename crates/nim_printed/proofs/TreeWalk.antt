-- Lines that no rule refuses, one after the other.
use Rattle.std.proofs.Common.{◌≡◌, ℕ, ◌+◌, if◌then◌else◌, true, false, List, [], ◌∷◌, ◌++◌, length, refl, sym, subst, ◌∙◌, ap, arith, Some, None}
use Rattle.std.specs.Prelude.{bytes_eq, codes, is_some}
use Rattle.nim_lex.specs.declared.token.Token.{Token}
use Rattle.nim_lex.specs.Refusals.{refused}
use Rattle.nim_lex.specs.Source.{line_count}
use Rattle.nim_parse.specs.declared.form.Form.{Form}
use Rattle.nim_parse.specs.declared.form.Found.{Found}
use Rattle.nim_parse.specs.declared.form.Head.{Head}
use Rattle.nim_parse.specs.declared.form.Head.TheVariants as head
use Rattle.nim_parse.specs.declared.state.State.{State}
use Rattle.nim_parse.specs.declared.sections.Statement.{Statement}
use Rattle.nim_parse.specs.declared.sections.Statement.TheVariants.{Do, Let, Get, Loop, While, If, Else, End, Checkpoint, Output}
use Rattle.nim_parse.specs.Driver.{after_form, after_lines, found_in_input, first_refusal, found_line, next_state, number_of, with_head}
use Rattle.nim_parse.specs.Grammar.{head_in, head_of, heads, line_form}
use Rattle.nim_parse.specs.Input.{Input, sees, unread_line}
use Rattle.nim_parse.specs.Rules.{rule_at_end, rule_of}
use Rattle.nim_parse.specs.States.{with_form}
use Rattle.nim_parse.proofs.LineSteps.{refusal_later}
use Rattle.nim_check.specs.Names.{reserved}
use Rattle.nim_printed.specs.Lines.{statement_words}
use Rattle.nim_printed.specs.Spelled.{is_unreserved}
use Rattle.nim_printed.specs.Words.{Word}
use Rattle.nim_printed.proofs.TreeForms.{head_for}
use Rattle.nim_printed.proofs.TreeReads.{Reads, Spells, first_text}
use Rattle.nim_printed.proofs.TreeTokens.{AreLines, LinesSpell, is_line}
use Rattle.nim_printed.proofs.TreeWordKinds.{differ}

-- ---- first words

abbrev head_among : List (Word × Head) → Word → Head
head_among [] word = head.Other
head_among (h ∷ hs) word = if bytes_eq word h.0 then h.1 else head_among hs word

head_seen : (hs : List (Word × Head)) (word : Word) (rest : List Word) (i : Input) → Spells i.source i.tokens (word ∷ rest) → head_in hs i ≡ head_among hs word
unfolding sees
head_seen [] word rest i spelled = refl
head_seen (h ∷ hs) word rest i spelled = rw (first_text h.0 word rest i.source i.tokens spelled, head_seen hs word rest i spelled) refl

-- a line that begins with this head
pub record Headed (first : Head) (words : List Word) : Type 0 where
  pub some : is_line words ≡ true
  pub headed : (i : Input) → Spells i.source i.tokens words → head_of i ≡ first

pub begins_with : (first : Head) (word : Word) (rest : List Word) → head_among heads word ≡ first → Headed first (word ∷ rest)
unfolding head_of
begins_with first word rest is = record { some = refl; headed = λ i spelled. head_seen heads word rest i spelled ∙ is }

abbrev are_taken : List (Word × Head) → Type 0
are_taken [] = Unit {0}
are_taken (h ∷ hs) = (is_unreserved h.0 ≡ false) × are_taken hs

no_head : (hs : List (Word × Head)) (word : Word) → are_taken hs → is_unreserved word ≡ true → head_among hs word ≡ head.Other
no_head [] word taken free = refl
no_head (h ∷ hs) word taken free = rw (differ is_unreserved word h.0 free taken.0) (no_head hs word taken.1 free)

heads_taken : are_taken heads
unfolding reserved
heads_taken = (refl, (refl, (refl, (refl, (refl, (refl, (refl, (refl, (refl, (refl, (refl, (refl, (refl, (refl, tt))))))))))))))

pub free_headed : (word : Word) (rest : List Word) → is_unreserved word ≡ true → Headed head.Other (word ∷ rest)
free_headed word rest free = begins_with head.Other word rest (no_head heads word heads_taken free)

pub statement_headed : (s : Statement) → Headed (head_for s) (statement_words s)
statement_headed (Do called arguments) = begins_with head.Do (codes "do") _ refl
statement_headed (Let scalar value) = begins_with head.Let (codes "let") _ refl
statement_headed (Get scalar variable part row column) = begins_with head.Get (codes "get") _ refl
statement_headed (Loop turns) = begins_with head.Loop (codes "loop") _ refl
statement_headed (While test) = begins_with head.While (codes "while") _ refl
statement_headed (If test) = begins_with head.If (codes "if") _ refl
statement_headed Else = begins_with head.Else (codes "else") _ refl
statement_headed End = begins_with head.End (codes "end") _ refl
statement_headed Checkpoint = begins_with head.Checkpoint (codes "checkpoint") _ refl
statement_headed (Output variable) = begins_with head.Output (codes "output") _ refl

-- ---- one line

-- no rule refuses a line of this number and these words, and this is the state behind it
pub record Passes (st : State) (line : ℕ) (words : List Word) (now : State) : Type 0 where
  pub some : is_line words ≡ true
  pub sound : (source : List ℕ) (ts : List Token) → number_of ts ≡ line → Spells source ts words → rule_of st (found_line source st ts) ≡ None
  pub now_is : (source : List ℕ) (ts : List Token) → number_of ts ≡ line → Spells source ts words → next_state source st ts ≡ now

abbrev pub as_found : Head → Form → Found
as_found first f = record { head = first; form = Some f; fits = true }

found_is : (st : State) (line : ℕ) (words : List Word) (first : Head) (f : Form) → Headed first words
    → Reads (line_form (is_some st.block) line first) words f []
    → (source : List ℕ) (ts : List Token) → number_of ts ≡ line → Spells source ts words → found_line source st ts ≡ as_found first f
unfolding found_line
found_is st line words first f headed reading source ts numbered spelled =
    let i : Input = unread_line source ts in
    let one = reading.reads i spelled in
    ap (λ n. found_in_input st n i) numbered
    ∙ ap (λ h. with_head h (line_form (is_some st.block) line h i)) (headed.headed i spelled)
    ∙ ap (with_head first) one.gives

pub line_passes : (st : State) (line : ℕ) (words : List Word) (first : Head) (f : Form) → Headed first words
    → Reads (line_form (is_some st.block) line first) words f []
    → rule_of st (as_found first f) ≡ None → Passes st line words (with_form st f)
line_passes st line words first f headed reading sound = record {
  some = headed.some;
  sound = λ source ts numbered spelled. ap (rule_of st) (found_is st line words first f headed reading source ts numbered spelled) ∙ sound;
  now_is =
      λ source ts numbered spelled. ap (λ (line : Found). after_form st line.form) (found_is st line words first f headed reading source ts numbered spelled);
}

-- ---- several lines

abbrev pub Goes : State → ℕ → List (List Word) → State → Type 0
Goes st line [] end = st ≡ end
Goes st line (words ∷ more) end = (now : State) × Passes st line words now × Goes now (line + 1) more end

pub goes_same : (st : State) (line : ℕ) (all : List (List Word)) (end other : State) → end ≡ other → Goes st line all end → Goes st line all other
goes_same st line all end other same goes = subst (λ (s : State). Goes st line all s) same goes

pub goes_on : (st : State) (line : ℕ) (ones : List (List Word)) (mid : State) (next : ℕ) (more : List (List Word)) (end : State)
    → next ≡ line + length ones → Goes st line ones mid → Goes mid next more end → Goes st line (ones ++ more) end
goes_on st line [] mid next more end counted first second =
    let same : next ≡ line = omega arith in
    subst (λ n. Goes st n more end) same (subst (λ (s : State). Goes s next more end) (sym first) second)
goes_on st line (words ∷ ones) mid next more end counted first second =
    (first.0, first.1, goes_on first.0 (line + 1) ones mid next more end (omega arith) first.2 second)

pub goes_lines : (st : State) (line : ℕ) (all : List (List Word)) (end : State) → Goes st line all end → AreLines all
goes_lines st line [] end goes = tt
goes_lines st line (words ∷ more) end goes = (goes.1.some, goes_lines goes.0 (line + 1) more end goes.2)

-- the state behind all lines, and what refuses them: the end of the file alone
pub walked : (source : List ℕ) (st : State) (line : ℕ) (all : List (List Word)) (end : State) (tss : List (List Token)) → Goes st line all end
    → LinesSpell source line tss all
    → (after_lines source st tss ≡ end) × (first_refusal source st tss ≡ refused (line_count source + 1) (rule_at_end end))
walked source st line [] end [] goes spelled = (goes, ap (λ (s : State). refused (line_count source + 1) (rule_at_end s)) goes)
walked source st line [] end (ts ∷ tss) goes spelled = absurd spelled
walked source st line (words ∷ more) end [] goes spelled = absurd spelled
walked source st line (words ∷ more) end (ts ∷ tss) goes spelled =
    let now : State = goes.0 in
    let step : next_state source st ts ≡ now = goes.1.now_is source ts spelled.0 spelled.1 in
    let later = walked source now (line + 1) more end tss goes.2 spelled.2 in (
      ap (λ (s : State). after_lines source s tss) step ∙ later.0,
      refusal_later source st ts tss (goes.1.sound source ts spelled.0 spelled.1) ∙ ap (λ (s : State). first_refusal source s tss) step ∙ later.1,
    )
