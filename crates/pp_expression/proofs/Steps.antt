-- Each step of the evaluator, as what it gives.
use Rattle.std.proofs.Common.{◌≡◌, ℕ, ◌+◌, ◌≤◌, length, Option, Some, None, Result, Ok, Err, ℤ, ap, arith}
use Rattle.pp_lexer.specs.declared.token.Punct.TheVariants as mark
use Rattle.pp_expression.specs.declared.symbol.Symbol.{Symbol}
use Rattle.pp_expression.specs.declared.symbol.Symbol.TheVariants as symbol
use Rattle.pp_expression.specs.declared.symbol.ExpressionFault.{ExpressionFault}
use Rattle.pp_expression.specs.declared.symbol.Found.{Found}
use Rattle.pp_expression.specs.declared.operator.Unary.{Unary}
use Rattle.pp_expression.specs.declared.operator.Binary.{Binary}
use Rattle.pp_expression.specs.Arithmetic.{unary_value, binary_value}
use Rattle.pp_expression.specs.Answers.{◌>>=◌}
use Rattle.pp_expression.specs.Lines.{Line, next, Reads}
use Rattle.pp_expression.specs.FirstFault.{atom_of, closing, unread_at}
use Rattle.pp_expression.specs.inner.Parsing.{after_next, sign_at, atom_at, closing_at, located, IsMet, IsFault}
use Rattle.pp_expression.proofs.Levels.{operator_at}
use Rattle.pp_expression.proofs.Unique.{bind_ok, bind_err}
use Rattle.pp_expression.proofs.Faults as faults

-- an answer is one without its place
pub located_ok : {A : Type 0} (left : ℕ) (r : Result A ExpressionFault) (x : A) → located left r ≡ Ok x → r ≡ Ok x
located_ok left (Ok y) x h = let same : y ≡ x = cc in ap Ok same
located_ok left (Err e) x h = cc

-- a fault is one without its place
pub located_err : {A : Type 0} (left : ℕ) (r : Result A ExpressionFault) (e : Found) → located left r ≡ Err e → (r ≡ Err e.kind) × (left ≡ e.left)
located_err left r e h = grind arith

-- a fault that is met, at its place
fault_at : (level : ℕ) (line : Line) (left order : ℕ) (e : Found) → left ≡ e.left → IsMet level line left order e.kind → IsFault level line e
fault_at level line left order e same h = record { order = order; met = rw (← same) h }

-- ---- an operand

atom_is : (r : Result (Option Symbol) ExpressionFault) (a : Option ℕ) → (r >>= atom_of) ≡ Ok a → (x : Option Symbol) × (r ≡ Ok x) × (atom_of x ≡ Ok a)
atom_is r a h = bind_ok r atom_of a h

pub opens : (line : Line) → located (length line.symbols) (atom_at line) ≡ Ok None → next line ≡ Ok (Some (symbol.Punct mark.LeftParen))
opens line h = grind arith

pub numbers : (line : Line) (n : ℕ) → located (length line.symbols) (atom_at line) ≡ Ok (Some n) → next line ≡ Ok (Some (symbol.Number n))
numbers line n h = grind arith

pub closes : (line : Line) → located (length line.symbols) (closing_at line) ≡ Ok tt → next line ≡ Ok (Some (symbol.Punct mark.RightParen))
closes line h = grind arith

pub no_fault_after : (line mid : Line) (v : ℤ) (e : ExpressionFault) → Reads 0 0 line mid v → next mid ≡ Err e → ⊥
no_fault_after line mid v e r h = grind arith

unread_sign : (symbols : Line) (e : ExpressionFault) → next symbols ≡ Err e → sign_at symbols ≡ Ok None → ⊥
unread_sign line e h s = let none : Err e ≡ Ok None = rw h at s in cc

pub atom_fails : (line : Line) (e : Found) → sign_at line ≡ Ok None → located (length line.symbols) (atom_at line) ≡ Err e → IsFault 10 line e
atom_fails line e s h =
    let is = located_err (length line.symbols) (atom_at line) e h in
    bind_err (next line) atom_of e.kind is.0
    (λ none. absurd (unread_sign line e.kind none s))
    (λ x some out. fault_at 10 line (length line.symbols) 4 e is.1 (faults.not_begun line x e.kind some s out))

pub closing_fails : (old mid : Line) (v : ℤ) (e : Found) → next old ≡ Ok (Some (symbol.Punct mark.LeftParen)) → Reads 0 0 (after_next old) mid v
    → located (length mid.symbols) (closing_at mid) ≡ Err e → IsFault 10 old e
closing_fails old mid v e open_paren r h =
    let is = located_err (length mid.symbols) (closing_at mid) e h in
    bind_err (next mid) closing e.kind is.0
    (λ none. absurd (no_fault_after (after_next old) mid v e.kind r none))
    (λ x some out. fault_at 10 old (length mid.symbols) 4 e is.1 (faults.not_closed old mid v x e.kind open_paren r some out))

pub in_group : (old : Line) (e : Found) → next old ≡ Ok (Some (symbol.Punct mark.LeftParen)) → IsFault 0 (after_next old) e → IsFault 10 old e
in_group old e open_paren h = record { order = h.order; met = faults.in_group old e.left h.order e.kind open_paren h.met }

pub sign_unread : (line : Line) (e : Found) → located (length line.symbols) (sign_at line) ≡ Err e → IsFault 10 line e
sign_unread line e h =
    let is = located_err (length line.symbols) (sign_at line) e h in
    fault_at 10 line (length line.symbols) 1 e is.1 (faults.sign_unread 10 line e.kind is.0)

pub in_sign : (o : Unary) (old : Line) (e : Found) → sign_at old ≡ Ok (Some o) → IsFault 10 (after_next old) e → IsFault 10 old e
in_sign o old e sign h = record { order = h.order; met = faults.in_sign o old e.left h.order e.kind sign h.met }

pub sign_fails : (o : Unary) (old new : Line) (x : ℤ) (e : Found) → sign_at old ≡ Ok (Some o) → Reads 10 10 (after_next old) new x
    → located (length new.symbols + 1) (unary_value o x) ≡ Err e → IsFault 10 old e
sign_fails o old new x e sign reads h =
    let is = located_err (length new.symbols + 1) (unary_value o x) e h in
    fault_at 10 old (length new.symbols + 1) 2 e is.1 (faults.sign_fails o old new x e.kind sign reads is.0)

-- ---- operators between operands

pub looser : (level : ℕ) (old : Line) (e : Found) → IsFault (level + 1) old e → IsFault level old e
looser level old e h = record { order = h.order; met = faults.looser level old e.left h.order e.kind h.met }

pub not_read_after : (level : ℕ) (old mid : Line) (v : ℤ) (e : Found) → level ≤ 9 → Reads level (level + 1) old mid v
    → located (length mid.symbols) (operator_at level mid) ≡ Err e → IsFault level old e
not_read_after level old mid v e low r h =
    let is = located_err (length mid.symbols) (operator_at level mid) e h in
    fault_at level old (length mid.symbols) 1 e is.1 (faults.not_read_after level old mid v e.kind low r is.0)

pub in_right : (level : ℕ) (o : Binary) (old mid : Line) (x : ℤ) (e : Found) → Reads level (level + 1) old mid x
    → operator_at level mid ≡ Ok (Some o) → IsFault (level + 1) (after_next mid) e → IsFault level old e
in_right level o old mid x e former op h = record { order = h.order; met = faults.in_right level o old mid x e.left h.order e.kind former op h.met }

pub operation_fails : (level : ℕ) (o : Binary) (old mid new : Line) (x y : ℤ) (e : Found) → Reads level (level + 1) old mid x
    → operator_at level mid ≡ Ok (Some o) → Reads (level + 1) (level + 1) (after_next mid) new y
    → located (unread_at o new) (binary_value o x y) ≡ Err e → IsFault level old e
operation_fails level o old mid new x y e former op latter h =
    let is = located_err (unread_at o new) (binary_value o x y) e h in
    fault_at level old (unread_at o new) 2 e is.1 (faults.operation_fails level o old mid new x y e.kind former op latter is.0)
