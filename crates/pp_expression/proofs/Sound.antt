-- What the run gives is a tree's value, or a fault that is met on the line.
use Rattle.std.proofs.Common.{◌≡◌, ℕ, zero, suc, ◌+◌, ◌≤◌, false, List, length, Option, Some, None, Result, Ok, Err, IsOk, ℤ, refl, ap, ◌∙◌, arith, ◌⊎◌, inl, inr}
use Rattle.std.specs.Prelude.{MatchResult}
use Rattle.pp_lexer.specs.declared.token.Punct.TheVariants as mark
use Rattle.pp_expression.specs.declared.symbol.Symbol.{Symbol}
use Rattle.pp_expression.specs.declared.symbol.Symbol.TheVariants as symbol
use Rattle.pp_expression.specs.declared.operator.Unary.{Unary}
use Rattle.pp_expression.specs.declared.operator.Binary.{Binary}
use Rattle.pp_expression.specs.declared.symbol.ExpressionFault.{ExpressionFault}
use Rattle.pp_expression.specs.Arithmetic.{unary_value, binary_value}
use Rattle.pp_expression.specs.Answers.{◌>>=◌}
use Rattle.pp_expression.specs.Lines.{Line, next, next_of, goes_on, Reads}
use Rattle.pp_expression.specs.inner.Lines.{binds_from}
use Rattle.pp_expression.specs.FirstFault.{atom_of, closing, unread_at, unread}
use Rattle.pp_expression.specs.inner.Parsing.{after_next, sign_at, IsMet}
use Rattle.pp_expression.proofs.Levels.{of_level, operator_of, operator_at}
use Rattle.pp_expression.proofs.Trees.{read_number, read_group, read_signed, read_looser, read_operation}
use Rattle.pp_expression.proofs.Faults.{here, at_group, at_number, at_close, sign_unread, not_begun, in_group, not_closed, in_sign, sign_fails, looser, not_read_after, in_right, operation_fails}
use Rattle.pp_expression.proofs.Steps.{no_fault_after}
use Rattle.pp_expression.proofs.Run.{Halt, Outcome, Turn, Operand, Level, Loop, at, atom_by, operand_by, loop_by, step, read, Settles}

-- a tree of the level with its value, a fault of the line, or too few turns
abbrev pub Sees : ℕ → Line → Outcome → Type 0
Sees level line out = MatchResult out (λ x. Reads level level line x.1 x.0) (λ h. (h.order ≡ 0) ⊎ IsMet level line h.left h.order h.kind)

record IsSound (turn : Turn) : Type 0 where
  operand : (line : Line) → Sees 10 line (turn Operand line)
  level : (level : ℕ) (line : Line) → level ≤ 10 → Sees level line (turn (Level level) line)
  loop : (level : ℕ) (x : ℤ) (start line : Line) → level ≤ 9 → Reads level (level + 1) start line x → Sees level start (turn (Loop level x) line)

deeper : {A B C : Type 0} → (A → B) → C ⊎ A → C ⊎ B
deeper f (inl c) = inl c
deeper f (inr a) = inr (f a)

-- ---- an operand

signed_value : (o : Unary) (line : Line) (x : ℤ × Line) (r : Result ℤ ExpressionFault) → unary_value o x.0 ≡ r → sign_at line ≡ Ok (Some o)
    → Reads 10 10 (after_next line) x.1 x.0 → Sees 10 line (at (length x.1.symbols + 1) 2 r >>= λ v. Ok (v, x.1))
signed_value o line x (Ok v) is sign reads = read_signed o line x.1 x.0 v sign reads is
signed_value o line x (Err e) is sign reads = inr (sign_fails o line x.1 x.0 e sign reads is)

signed_operand : (o : Unary) (line : Line) (r : Outcome) → sign_at line ≡ Ok (Some o) → Sees 10 (after_next line) r
    → Sees 10 line (r >>= λ x. at (length x.1.symbols + 1) 2 (unary_value o x.0) >>= λ v. Ok (v, x.1))
signed_operand o line (Ok x) sign sees = signed_value o line x (unary_value o x.0) refl sign sees
signed_operand o line (Err h) sign sees = deeper (in_sign o line h.left h.order h.kind sign) sees

group_closed : (line : Line) (x : ℤ × Line) (y : Option Symbol) (r : Result (Unit {0}) ExpressionFault) → closing y ≡ r
    → next line ≡ Ok (Some (symbol.Punct mark.LeftParen)) → Reads 0 0 (after_next line) x.1 x.0 → next x.1 ≡ Ok y
    → Sees 10 line (at (length x.1.symbols) 4 r >>= λ u. Ok (x.0, after_next x.1))
group_closed line x y (Ok u) out opens reads is = read_group line x.1 x.0 opens reads (is ∙ ap Ok (at_close y out))
group_closed line x y (Err e) out opens reads is = inr (not_closed line x.1 x.0 y e opens reads is out)

group_after : (line : Line) (x : ℤ × Line) (r : Result (Option Symbol) ExpressionFault) → next x.1 ≡ r
    → next line ≡ Ok (Some (symbol.Punct mark.LeftParen)) → Reads 0 0 (after_next line) x.1 x.0
    → Sees 10 line (at (length x.1.symbols) 1 r >>= λ y. at (length x.1.symbols) 4 (closing y) >>= λ u. Ok (x.0, after_next x.1))
group_after line x (Ok y) is opens reads = group_closed line x y (closing y) refl opens reads is
group_after line x (Err e) is opens reads = absurd (no_fault_after (after_next line) x.1 x.0 e reads is)

group_read : (line : Line) (r : Outcome) → next line ≡ Ok (Some (symbol.Punct mark.LeftParen)) → Sees 0 (after_next line) r
    → Sees 10 line (r >>= λ x. at (length x.1.symbols) 1 (next x.1) >>= λ y. at (length x.1.symbols) 4 (closing y) >>= λ u. Ok (x.0, after_next x.1))
group_read line (Ok x) opens sees = group_after line x (next x.1) refl opens sees
group_read line (Err h) opens sees = deeper (in_group line h.left h.order h.kind opens) sees

atom_kind : (turn : Turn) → IsSound turn → (line : Line) (y : Option Symbol) (r : Result (Option ℕ) ExpressionFault) → atom_of y ≡ r
    → sign_at line ≡ Ok None → next line ≡ Ok y → Sees 10 line (at (length line.symbols) 4 r >>= atom_by turn line)
atom_kind turn sound line y (Ok (Some n)) out none is = read_number line n (is ∙ ap Ok (at_number y n out))
atom_kind turn sound line y (Ok None) out none is = group_read line (turn (Level 0) (after_next line)) (is
    ∙ ap Ok (at_group y out)) (sound.level 0 (after_next line) (omega arith))
atom_kind turn sound line y (Err e) out none is = inr (not_begun line y e is none out)

atom_read : (turn : Turn) → IsSound turn → (line : Line) (r : Result (Option Symbol) ExpressionFault) → next line ≡ r → sign_at line ≡ Ok None
    → Sees 10 line (at (length line.symbols) 1 r >>= λ y. at (length line.symbols) 4 (atom_of y) >>= atom_by turn line)
atom_read turn sound line (Ok y) is none = atom_kind turn sound line y (atom_of y) refl none is
atom_read turn sound line (Err e) is none = inr (here 10 line (length line.symbols) 1 e (unread e is) tt)

operand_read : (turn : Turn) → IsSound turn → (line : Line) (r : Result (Option Unary) ExpressionFault) → sign_at line ≡ r
    → Sees 10 line (at (length line.symbols) 1 r >>= operand_by turn line)
operand_read turn sound line (Ok (Some o)) is = signed_operand o line (turn Operand (after_next line)) is (sound.operand (after_next line))
operand_read turn sound line (Ok None) is = atom_read turn sound line (next line) refl is
operand_read turn sound line (Err e) is = inr (sign_unread 10 line e is)

-- ---- operators between operands

binds_here : (level : ℕ) (m : Option Binary) → binds_from (level + 1) m ≡ false → of_level level m ≡ None → binds_from level m ≡ false
binds_here level (Some o) h none = grind arith
binds_here level None h none = refl

over_here : (level : ℕ) (symbols : List Symbol) (ending : Option ExpressionFault) → goes_on (level + 1) symbols ≡ false
    → (next_of symbols ending >>= (λ x. Ok (operator_of level x))) ≡ Ok None → goes_on level symbols ≡ false
over_here level symbols ending h k = grind arith

known_here : (level : ℕ) (symbols : List Symbol) (ending : Option ExpressionFault)
    → (next_of symbols ending >>= (λ x. Ok (operator_of level x))) ≡ Ok None → IsOk (next_of symbols ending)
known_here level symbols ending h = grind arith

-- a left operand without an operator after it is the whole expression of the level
finished : (level : ℕ) (start line : Line) (x : ℤ) → Reads level (level + 1) start line x → operator_at level line ≡ Ok None → Reads level level start line x
finished level start line x reads none = grind arith

loop_value : (turn : Turn) → IsSound turn → (level : ℕ) (o : Binary) (x : ℤ) (start line : Line) (y : ℤ × Line) (r : Result ℤ ExpressionFault)
    → level ≤ 9 → binary_value o x y.0 ≡ r → operator_at level line ≡ Ok (Some o) → Reads level (level + 1) start line x
    → Reads (level + 1) (level + 1) (after_next line) y.1 y.0 → Sees level start (at (unread_at o y.1) 2 r >>= λ v. turn (Loop level v) y.1)
loop_value turn sound level o x start line y (Ok v) h is op former latter =
    sound.loop level v start y.1 h (read_operation level o start line y.1 x y.0 v former op latter is)
loop_value turn sound level o x start line y (Err e) h is op former latter = inr (operation_fails level o start line y.1 x y.0 e former op latter is)

loop_right : (turn : Turn) → IsSound turn → (level : ℕ) (o : Binary) (x : ℤ) (start line : Line) (r : Outcome) → level ≤ 9
    → operator_at level line ≡ Ok (Some o) → Reads level (level + 1) start line x → Sees (level + 1) (after_next line) r
    → Sees level start (r >>= λ y. at (unread_at o y.1) 2 (binary_value o x y.0) >>= λ v. turn (Loop level v) y.1)
loop_right turn sound level o x start line (Ok y) h op former sees = loop_value turn sound level o x start line y (binary_value o x y.0) h refl op former sees
loop_right turn sound level o x start line (Err e) h op former sees = deeper (in_right level o start line x e.left e.order e.kind former op) sees

loop_read : (turn : Turn) → IsSound turn → (level : ℕ) (x : ℤ) (start line : Line) (r : Result (Option Binary) ExpressionFault) → level ≤ 9
    → operator_at level line ≡ r → Reads level (level + 1) start line x → Sees level start (at (length line.symbols) 1 r >>= loop_by turn level x line)
loop_read turn sound level x start line (Ok None) h is former = finished level start line x former is
loop_read turn sound level x start line (Ok (Some o)) h is former =
    loop_right turn sound level o x start line (turn (Level (level + 1)) (after_next line)) h is former
    (sound.level (level + 1) (after_next line) (omega arith))
loop_read turn sound level x start line (Err e) h is former = inr (not_read_after level start line x e h former is)

level_right : (turn : Turn) → IsSound turn → (level : ℕ) (line : Line) (r : Outcome) → level ≤ 9 → Sees (level + 1) line r
    → Sees level line (r >>= λ x. turn (Loop level x.0) x.1)
level_right turn sound level line (Ok x) h sees = sound.loop level x.0 line x.1 h (read_looser level (level + 1) line x.1 x.0 sees)
level_right turn sound level line (Err e) h sees = deeper (looser level line e.left e.order e.kind) sees

level_read : (turn : Turn) → IsSound turn → (level : ℕ) (line : Line) → level ≤ 10 → Sees level line (step turn (Level level) line)
level_read turn sound level line h = grind (arith, level_right)

sound : (n : ℕ) → IsSound (read n)
sound zero = record { operand = λ line. inl refl; level = λ level line h. inl refl; loop = λ level x start line h reads. inl refl }
sound (suc n) = record {
  operand = λ line. operand_read (read n) (sound n) line (sign_at line) refl;
  level = level_read (read n) (sound n);
  loop = λ level x start line h reads. loop_read (read n) (sound n) level x start line (operator_at level line) h refl reads;
}

-- What the run gives of a whole line, with any number of turns.
pub seen : (n : ℕ) (line : Line) → Sees 0 line (read n (Level 0) line)
seen n line = (sound n).level 0 line (omega arith)

-- A fault that was found before the turns ran out is one that is met.
pub fault_seen : (level : ℕ) (line : Line) (h : Halt) → 1 ≤ h.order → (h.order ≡ 0) ⊎ IsMet level line h.left h.order h.kind
    → IsMet level line h.left h.order h.kind
fault_seen level line h ordered (inl none) = absurd (omega (arith, none))
fault_seen level line h ordered (inr met) = met

-- The fault that the run finds is one that is met.
pub found_met : (level : ℕ) (line : Line) (h : Halt) → level ≤ 10 → 1 ≤ h.order → Settles (Level level) line (Err h)
    → IsMet level line h.left h.order h.kind
found_met level line h bound ordered a =
    let sees = rw (a.settled a.enough (omega arith)) at ((sound a.enough).level level line bound) in
    fault_seen level line h ordered sees
