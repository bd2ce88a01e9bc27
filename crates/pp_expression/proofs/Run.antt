-- A parser with a function for each level, as a function on lines, with turns enough. Each outcome of the definitions is its outcome, so a line has one.
use Rattle.std.proofs.Common.{◌≡◌, ℕ, zero, suc, ◌+◌, ◌≤◌, false, nat_le, length, Option, Some, None, Result, Ok, Err, ℤ, refl, sym, ◌∙◌, arith, if◌then◌else◌}
use Rattle.pp_lexer.specs.declared.token.Punct.TheVariants as mark
use Rattle.pp_expression.specs.declared.symbol.Symbol.{Symbol}
use Rattle.pp_expression.specs.declared.symbol.Symbol.TheVariants as symbol
use Rattle.pp_expression.specs.declared.operator.Unary.{Unary}
use Rattle.pp_expression.specs.declared.operator.Binary.{Binary}
use Rattle.pp_expression.specs.declared.symbol.ExpressionFault.{ExpressionFault}
use Rattle.pp_expression.specs.declared.symbol.ExpressionFault.TheVariants as fault
use Rattle.pp_expression.specs.Arithmetic.{unary_value, binary_value, literal}
use Rattle.pp_expression.specs.Answers.{◌>>=◌}
use Rattle.pp_expression.specs.Lines.{Line, next}
use Rattle.pp_expression.specs.FirstFault.{atom_of, closing, unread_at}
use Rattle.pp_expression.specs.inner.Parsing.{after_next, sign_at}
use Rattle.pp_expression.proofs.Levels.{operator_at}

-- a fault, the symbols that are unread when it is found, and its order among those found there
pub record Halt : Type 0 where
  pub left : ℕ
  pub order : ℕ
  pub kind : ExpressionFault

abbrev pub Outcome : Type 0
Outcome = Result (ℤ × Line) Halt

pub data Mode : Type 0 where
  Operand : Mode
  Level : ℕ → Mode
  Loop : ℕ → ℤ → Mode

abbrev pub at : {A : Type 0} → ℕ → ℕ → Result A ExpressionFault → Result A Halt
at left order (Ok x) = Ok x
at left order (Err e) = Err (record { left = left; order = order; kind = e })

abbrev pub Turn : Type 0
Turn = Mode → Line → Outcome

abbrev pub atom_by : Turn → Line → Option ℕ → Outcome
atom_by turn line (Some n) = Ok (literal n, after_next line)
atom_by turn line None = turn (Level 0) (after_next line) >>= λ x. at (length x.1.symbols) 1 (next x.1) >>= λ w. at (length x.1.symbols) 4
    (closing w) >>= λ u. Ok (x.0, after_next x.1)

abbrev pub operand_by : Turn → Line → Option Unary → Outcome
operand_by turn line (Some o) = turn Operand (after_next line) >>= λ x. at (length x.1.symbols + 1) 2 (unary_value o x.0) >>= λ v. Ok (v, x.1)
operand_by turn line None = at (length line.symbols) 1 (next line) >>= λ w. at (length line.symbols) 4 (atom_of w) >>= atom_by turn line

abbrev pub loop_by : Turn → ℕ → ℤ → Line → Option Binary → Outcome
loop_by turn level x line None = Ok (x, line)
loop_by turn level x line (Some o) = turn (Level (level + 1)) (after_next line) >>= λ y. at (unread_at o y.1) 2
    (binary_value o x y.0) >>= λ v. turn (Loop level v) y.1

abbrev pub step : Turn → Mode → Line → Outcome
step turn Operand line = at (length line.symbols) 1 (sign_at line) >>= operand_by turn line
step turn (Level level) line = if nat_le 10 level then turn Operand line else turn (Level (level + 1)) line >>= λ x. turn (Loop level x.0) x.1
step turn (Loop level x) line = at (length line.symbols) 1 (operator_at level line) >>= loop_by turn level x line

abbrev pub read : ℕ → Mode → Line → Outcome
read zero mode line = Err (record { left = 0; order = 0; kind = fault.UnexpectedEndOfInput })
read (suc n) mode line = step (read n) mode line

-- from some number of turns on, the outcome is this one
pub record Settles (mode : Mode) (line : Line) (out : Outcome) : Type 0 where
  pub enough : ℕ
  pub settled : (m : ℕ) → enough ≤ m → read m mode line ≡ out

later : (n : ℕ) (mode : Mode) (line : Line) (out : Outcome) → ((m : ℕ) → n ≤ m → step (read m) mode line ≡ out) → (m : ℕ) → suc n ≤ m → read m mode line ≡ out
later n mode line out h zero le = absurd (omega arith)
later n mode line out h (suc m) le = h m (omega arith)

settle : (n : ℕ) (mode : Mode) (line : Line) (out : Outcome) → ((m : ℕ) → n ≤ m → step (read m) mode line ≡ out) → Settles mode line out
settle n mode line out h = record { enough = suc n; settled = later n mode line out h }

-- one outcome
pub settles_once : (mode : Mode) (line : Line) (a b : Outcome) → Settles mode line a → Settles mode line b → a ≡ b
settles_once mode line a b x y = sym (x.settled (x.enough + y.enough) (omega arith)) ∙ y.settled (x.enough + y.enough) (omega arith)

pub low : (level : ℕ) → level ≤ 9 → nat_le 10 level ≡ false
low level h = grind arith

-- ---- one turn of each kind

pub level_goes : (level : ℕ) (line rest : Line) (x : ℤ) (out : Outcome) → level ≤ 9 → Settles (Level (level + 1)) line (Ok (x, rest))
    → Settles (Loop level x) rest out → Settles (Level level) line out
level_goes level line rest x out h a b =
    settle (a.enough + b.enough) (Level level) line out
    (λ m le. rw (low level h) (rw (a.settled m (omega arith)) (b.settled m (omega arith))))

pub level_fails : (level : ℕ) (line : Line) (e : Halt) → level ≤ 9 → Settles (Level (level + 1)) line (Err e) → Settles (Level level) line (Err e)
level_fails level line e h a =
    settle a.enough (Level level) line (Err e)
    (λ m le. rw (low level h) (rw (a.settled m le) refl))

pub level_operand : (line : Line) (out : Outcome) → Settles Operand line out → Settles (Level 10) line out
level_operand line out a = settle a.enough (Level 10) line out (λ m le. a.settled m le)

pub loop_ends : (level : ℕ) (x : ℤ) (rest : Line) → operator_at level rest ≡ Ok None → Settles (Loop level x) rest (Ok (x, rest))
loop_ends level x rest h = settle 0 (Loop level x) rest (Ok (x, rest)) (λ m le. rw h refl)

pub loop_unread : (level : ℕ) (x : ℤ) (rest : Line) (e : ExpressionFault) → operator_at level rest ≡ Err e
    → Settles (Loop level x) rest (Err (record { left = length rest.symbols; order = 1; kind = e }))
loop_unread level x rest e h = settle 0 (Loop level x) rest (Err (record { left = length rest.symbols; order = 1; kind = e })) (λ m le. rw h refl)

pub loop_goes : (level : ℕ) (o : Binary) (x y v : ℤ) (line rest : Line) (out : Outcome) → operator_at level line ≡ Ok (Some o)
    → Settles (Level (level + 1)) (after_next line) (Ok (y, rest)) → binary_value o x y ≡ Ok v → Settles (Loop level v) rest out
    → Settles (Loop level x) line out
loop_goes level o x y v line rest out h a e b =
    settle (a.enough + b.enough) (Loop level x) line out
    (λ m le. rw h (rw (a.settled m (omega arith)) (rw e (b.settled m (omega arith)))))

pub loop_overflows : (level : ℕ) (o : Binary) (x y : ℤ) (line rest : Line) (e : ExpressionFault) → operator_at level line ≡ Ok (Some o)
    → Settles (Level (level + 1)) (after_next line) (Ok (y, rest)) → binary_value o x y ≡ Err e
    → Settles (Loop level x) line (Err (record { left = unread_at o rest; order = 2; kind = e }))
loop_overflows level o x y line rest e h a is =
    settle a.enough (Loop level x) line (Err (record { left = unread_at o rest; order = 2; kind = e }))
    (λ m le. rw h (rw (a.settled m le) (rw is refl)))

pub loop_right : (level : ℕ) (o : Binary) (x : ℤ) (line : Line) (e : Halt) → operator_at level line ≡ Ok (Some o)
    → Settles (Level (level + 1)) (after_next line) (Err e) → Settles (Loop level x) line (Err e)
loop_right level o x line e h a =
    settle a.enough (Loop level x) line (Err e) (λ m le. rw h (rw (a.settled m le) refl))

pub operand_unread : (line : Line) (e : ExpressionFault) → sign_at line ≡ Err e
    → Settles Operand line (Err (record { left = length line.symbols; order = 1; kind = e }))
operand_unread line e h = settle 0 Operand line (Err (record { left = length line.symbols; order = 1; kind = e })) (λ m le. rw h refl)

pub operand_signed : (o : Unary) (line rest : Line) (x v : ℤ) → sign_at line ≡ Ok (Some o) → Settles Operand (after_next line) (Ok (x, rest))
    → unary_value o x ≡ Ok v → Settles Operand line (Ok (v, rest))
operand_signed o line rest x v h a e = settle a.enough Operand line (Ok (v, rest)) (λ m le. rw h (rw (a.settled m le) (rw e refl)))

pub operand_overflows : (o : Unary) (line rest : Line) (x : ℤ) (e : ExpressionFault) → sign_at line ≡ Ok (Some o)
    → Settles Operand (after_next line) (Ok (x, rest)) → unary_value o x ≡ Err e
    → Settles Operand line (Err (record { left = length rest.symbols + 1; order = 2; kind = e }))
operand_overflows o line rest x e h a is = settle a.enough Operand line (Err (record { left = length rest.symbols + 1; order = 2; kind = e }))
    (λ m le. rw h (rw (a.settled m le) (rw is refl)))

pub operand_in_sign : (o : Unary) (line : Line) (e : Halt) → sign_at line ≡ Ok (Some o) → Settles Operand (after_next line) (Err e)
    → Settles Operand line (Err e)
operand_in_sign o line e h a = settle a.enough Operand line (Err e) (λ m le. rw h (rw (a.settled m le) refl))

pub operand_number : (line : Line) (n : ℕ) → sign_at line ≡ Ok None → next line ≡ Ok (Some (symbol.Number n))
    → Settles Operand line (Ok (literal n, after_next line))
operand_number line n h e = settle 0 Operand line (Ok (literal n, after_next line)) (λ m le. rw h (rw e refl))

pub operand_wrong : (line : Line) (x : Option Symbol) (e : ExpressionFault) → sign_at line ≡ Ok None → next line ≡ Ok x → atom_of x ≡ Err e
    → Settles Operand line (Err (record { left = length line.symbols; order = 4; kind = e }))
operand_wrong line x e h is out = settle 0 Operand line (Err (record { left = length line.symbols; order = 4; kind = e })) (λ m le. rw h (rw is (rw out refl)))

pub operand_group : (line mid : Line) (v : ℤ) → sign_at line ≡ Ok None → next line ≡ Ok (Some (symbol.Punct mark.LeftParen))
    → Settles (Level 0) (after_next line) (Ok (v, mid)) → next mid ≡ Ok (Some (symbol.Punct mark.RightParen)) → Settles Operand line (Ok (v, after_next mid))
operand_group line mid v h e a c = settle a.enough Operand line (Ok (v, after_next mid)) (λ m le. rw h (rw e (rw (a.settled m le) (rw c refl))))

pub operand_unclosed : (line mid : Line) (v : ℤ) (x : Option Symbol) (d : ExpressionFault) → sign_at line ≡ Ok None
    → next line ≡ Ok (Some (symbol.Punct mark.LeftParen)) → Settles (Level 0) (after_next line) (Ok (v, mid)) → next mid ≡ Ok x → closing x ≡ Err d
    → Settles Operand line (Err (record { left = length mid.symbols; order = 4; kind = d }))
operand_unclosed line mid v x d h e a c out = settle a.enough Operand line (Err (record { left = length mid.symbols; order = 4; kind = d }))
    (λ m le. rw h (rw e (rw (a.settled m le) (rw c (rw out refl)))))

pub operand_in_group : (line : Line) (e : Halt) → sign_at line ≡ Ok None → next line ≡ Ok (Some (symbol.Punct mark.LeftParen))
    → Settles (Level 0) (after_next line) (Err e) → Settles Operand line (Err e)
operand_in_group line e h is a = settle a.enough Operand line (Err e) (λ m le. rw h (rw is (rw (a.settled m le) refl)))
