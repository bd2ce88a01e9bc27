-- No fault that a line may have comes before its first.
use Rattle.std.proofs.Common.{◌≡◌, ℕ, ◌+◌, ◌-◌, ◌≤◌, ◌<◌, List, [], ◌∷◌, ◌++◌, length, Some, Result, Ok, Err, ℤ, refl, arith, length-append}
use Rattle.std.proofs.Math.Decide.{dec_lt}
use Rattle.std.proofs.lemmas.Grind.{common_steps}
use Rattle.pp_lexer.specs.declared.token.Punct.TheVariants as mark
use Rattle.pp_expression.specs.declared.symbol.Symbol.{Symbol}
use Rattle.pp_expression.specs.declared.symbol.Symbol.TheVariants as symbol
use Rattle.pp_expression.specs.declared.operator.Unary.{Unary}
use Rattle.pp_expression.specs.declared.operator.Binary.{Binary}
use Rattle.pp_expression.specs.declared.symbol.ExpressionFault.{ExpressionFault}
use Rattle.pp_expression.specs.declared.symbol.Found.{Found}
use Rattle.pp_expression.specs.Operators.{level_of, unary_punct, binary_punct}
use Rattle.pp_expression.specs.Arithmetic.{unary_value, binary_value}
use Rattle.pp_expression.specs.Trees.{Tree, Number, Group, Prefix, Infix, spelling, Fits, value}
use Rattle.pp_expression.specs.Answers.{◌>>=◌}
use Rattle.pp_expression.specs.Lines.{Line, next, Stops, Reads}
use Rattle.pp_expression.specs.FirstFault.{unread_at, Front, Here, InGroup, InPrefix, InInfix, front_spelling, FitsFront, wanted, Possible, Before, IsFirst, IsValue, Fails, unread, wrong, unread_after, unclosed, signed, operated}
use Rattle.pp_expression.specs.inner.Parsing.{after_next, IsAfterValue, IsFault}
use Rattle.pp_expression.proofs.Levels.{operator_at}
use Rattle.pp_expression.proofs.Trees.{operand_stops}
use Rattle.pp_expression.proofs.Run.{Halt, Outcome, Mode, Operand, Level, Loop, Settles, settles_once, loop_overflows, loop_right, operand_overflows, operand_in_sign, operand_in_group}
use Rattle.pp_expression.proofs.First.{spot, found, up, down, left_goes, unreads, wanted_low, fails_settles, fault_settles}
use Rattle.pp_expression.proofs.Unique.{bind_err, onto, over_more, infix_absurd, stops_above, onto_more, line_is, is_read, low_operator, sign_front, operator_front, stops_before, stops_more, descend_fault, reads_settles}

-- Found at an earlier symbol, or at the same one and lower in order, or the very same.
pub data Sooner (halt bound : Halt) : Type 0 where
  earlier : bound.left < halt.left → Sooner halt bound
  lower : halt.left ≡ bound.left → halt.order < bound.order → Sooner halt bound
  exact : halt ≡ bound → Sooner halt bound

-- The run finds a fault, and it is this one or a sooner one.
pub record FailsBy (mode : Mode) (line : Line) (bound : Halt) : Type 0 where
  pub halt : Halt
  pub settles : Settles mode line (Err halt)
  pub ordered : 1 ≤ halt.order
  pub sooner : Sooner halt bound

-- ---- a later place

sooner_earlier : (halt bound later : Halt) → later.left < bound.left → Sooner halt bound → Sooner halt later
sooner_earlier halt bound later h k = grind arith

sooner_lower : (halt bound later : Halt) → later.left ≡ bound.left → bound.order < later.order → Sooner halt bound → Sooner halt later
sooner_lower halt bound later h k e = grind arith

by_earlier : (mode : Mode) (line : Line) (bound later : Halt) → later.left < bound.left → FailsBy mode line bound → FailsBy mode line later
by_earlier mode line bound later h a = record { halt = a.halt; settles = a.settles; ordered = a.ordered; sooner = sooner_earlier a.halt bound later h a.sooner }

by_lower : (mode : Mode) (line : Line) (bound later : Halt) → later.left ≡ bound.left → bound.order < later.order → FailsBy mode line bound
    → FailsBy mode line later
by_lower mode line bound later e h a = record { halt = a.halt; settles = a.settles; ordered = a.ordered; sooner = sooner_lower a.halt bound later e h a.sooner }

exactly : (mode : Mode) (line : Line) (bound : Halt) → 1 ≤ bound.order → Settles mode line (Err bound) → FailsBy mode line bound
exactly mode line bound ordered a = record { halt = bound; settles = a; ordered = ordered; sooner = exact refl }

by_step : (mode : Mode) (line : Line) (mode' : Mode) (line' : Line) (bound : Halt)
    → ((e : Halt) → Settles mode line (Err e) → Settles mode' line' (Err e)) → FailsBy mode line bound → FailsBy mode' line' bound
by_step mode line mode' line' bound go a = record { halt = a.halt; settles = go a.halt a.settles; ordered = a.ordered; sooner = a.sooner }

-- ---- a tree without a value

-- An operand's fault is found at its last symbol at the latest.
abbrev AtomFails : Tree → Type 0
AtomFails t = (rest : Line) (e : ExpressionFault) → Fits 10 t → value t ≡ Err e → FailsBy Operand (onto (spelling t) rest) (spot (length rest.symbols + 1) 2 e)

-- Another tree's fault is found at the symbol after it at the latest.
abbrev TreeFails : Tree → Type 0
TreeFails t = (level : ℕ) (rest : Line) (e : ExpressionFault) → level ≤ 10 → Fits level t → value t ≡ Err e → Stops (level + 1) rest
    → FailsBy (Level level) (onto (spelling t) rest) (spot (length rest.symbols) 2 e)

-- The same where that symbol isn't read: its fault comes first, if no other did.
abbrev UnreadFails : Tree → Type 0
UnreadFails t = (level : ℕ) (rest : Line) (e d : ExpressionFault) → level ≤ 9 → Fits level t → value t ≡ Err e → next rest ≡ Err d
    → FailsBy (Level level) (onto (spelling t) rest) (spot (length rest.symbols) 1 d)

to_level : (level : ℕ) (line : Line) (bound : Halt) → level ≤ 10 → FailsBy Operand line bound → FailsBy (Level level) line bound
to_level level line bound h a = by_step Operand line (Level level) line bound (λ e s. up level line e h s) a

atom_tree : (t : Tree) → ((level : ℕ) → Fits level t → Fits 10 t) → AtomFails t → TreeFails t
atom_tree t tight a level rest e h fits is s =
    to_level level (onto (spelling t) rest) (spot (length rest.symbols) 2 e) h
    (by_earlier Operand (onto (spelling t) rest) (spot (length rest.symbols + 1) 2 e) (spot (length rest.symbols) 2 e) (omega arith)
    (a rest e (tight level fits) is))

atom_unread : (t : Tree) → ((level : ℕ) → Fits level t → Fits 10 t) → AtomFails t → UnreadFails t
atom_unread t tight a level rest e d h fits is out =
    to_level level (onto (spelling t) rest) (spot (length rest.symbols) 1 d) (omega arith)
    (by_earlier Operand (onto (spelling t) rest) (spot (length rest.symbols + 1) 2 e) (spot (length rest.symbols) 1 d) (omega arith)
    (a rest e (tight level fits) is))

group_fails : (t : Tree) → TreeFails t → AtomFails (Group t)
group_fails t tree rest e fits is =
    let inner = onto (symbol.Punct mark.RightParen ∷ []) rest in
    let whole = onto (spelling (Group t)) rest in
    let a = tree 0 inner e (omega arith) fits is (record { known = λ h. refl; over = refl }) in
    let one : length inner.symbols ≡ length rest.symbols + 1 = omega arith in
    let b : FailsBy Operand whole (spot (length inner.symbols) 2 e) =
    by_step (Level 0) (onto (spelling t) inner) Operand whole (spot (length inner.symbols) 2 e)
    (λ d s. operand_in_group whole d refl refl (rw (onto_more (spelling t) (symbol.Punct mark.RightParen ∷ []) rest) s)) a in
    rw (← one) b

prefix_fails : (o : Unary) (t : Tree) → AtomFails t → AtomFails (Prefix o t)
prefix_fails o t atom rest e fits is =
    let whole = onto (spelling (Prefix o t)) rest in
    let sign = sign_front o (spelling t) rest in
    let bound = spot (length rest.symbols + 1) 2 e in
    bind_err (value t) (unary_value o) e is
    (λ none. by_step Operand (onto (spelling t) rest) Operand whole bound (λ d s. operand_in_sign o whole d sign s) (atom rest e fits none))
    (λ x some none. exactly Operand whole bound (omega arith)
    (operand_overflows o whole rest x e sign ((is_read t).atom rest x fits some) none))

-- What an operator's right side comes to, seen from its own level.
left_by : (o : Binary) (l : Tree) (xs : List Symbol) (rest : Line) (x : ℤ) (bound : Halt) → Fits (level_of o) l → value l ≡ Ok x
    → FailsBy (Loop (level_of o) x) (onto (symbol.Punct (binary_punct o) ∷ xs) rest) bound
    → FailsBy (Level (level_of o)) (onto (spelling l ++ (symbol.Punct (binary_punct o) ∷ xs)) rest) bound
left_by o l xs rest x bound fits is a =
    by_step (Loop (level_of o) x) (onto (symbol.Punct (binary_punct o) ∷ xs) rest) (Level (level_of o))
    (onto (spelling l ++ (symbol.Punct (binary_punct o) ∷ xs)) rest) bound
    (λ e s. left_goes o l xs (level_of o) rest x (Err e) (omega arith) fits is s) a

right_by : (o : Binary) (x : ℤ) (xs : List Symbol) (rest : Line) (bound : Halt) → FailsBy (Level (level_of o + 1)) (onto xs rest) bound
    → FailsBy (Loop (level_of o) x) (onto (symbol.Punct (binary_punct o) ∷ xs) rest) bound
right_by o x xs rest bound a =
    let after = onto (symbol.Punct (binary_punct o) ∷ xs) rest in
    by_step (Level (level_of o + 1)) (onto xs rest) (Loop (level_of o) x) after bound
    (λ e s. loop_right (level_of o) o x after e (operator_front (level_of o) o xs rest refl) s) a

descend_by : (level top : ℕ) (line : Line) (bound : Halt) → level ≤ top → top ≤ 10 → FailsBy (Level top) line bound → FailsBy (Level level) line bound
descend_by level top line bound le h a =
    by_step (Level top) line (Level level) line bound (λ e s. descend_fault (top - level) level top line e (omega arith) h s) a

-- a left operand without a value is at fault before the symbols after its operator
left_fails : (o : Binary) (l : Tree) (xs : List Symbol) (rest : Line) (e : ExpressionFault) (bound : Halt) → TreeFails l → Fits (level_of o) l
    → value l ≡ Err e → bound.left ≤ length (xs ++ rest.symbols)
    → FailsBy (Level (level_of o)) (onto (spelling l ++ (symbol.Punct (binary_punct o) ∷ xs)) rest) bound
left_fails o l xs rest e bound tree fits is within =
    let low = low_operator o in
    let after = onto (symbol.Punct (binary_punct o) ∷ xs) rest in
    let a = tree (level_of o) after e (omega arith) fits is (stops_before (level_of o) o xs rest refl) in
    let whole = onto (spelling l) after in
    let b : FailsBy (Level (level_of o)) whole bound = by_earlier (Level (level_of o)) whole (spot (length after.symbols) 2 e) bound (omega arith) a in
    rw (onto_more (spelling l) (symbol.Punct (binary_punct o) ∷ xs) rest) b

unread_near : (o : Binary) (rest : Line) (e : ExpressionFault) → Sooner (spot (unread_at o rest) 2 e) (spot (length rest.symbols) 2 e)
unread_near o rest e = grind (arith, exact, spot, earlier)

split : {A E : Type 0} {P : Type 0} (r : Result A E) → ((x : A) → r ≡ Ok x → P) → ((e : E) → r ≡ Err e → P) → P
split (Ok x) a b = a x refl
split (Err e) a b = b e refl

near_fails : (o : Binary) (x y : ℤ) (line rest : Line) (e : ExpressionFault) → operator_at (level_of o) line ≡ Ok (Some o)
    → Settles (Level (level_of o + 1)) (after_next line) (Ok (y, rest)) → binary_value o x y ≡ Err e
    → FailsBy (Loop (level_of o) x) line (spot (length rest.symbols) 2 e)
near_fails o x y line rest e h a is =
    record {
      halt = spot (unread_at o rest) 2 e;
      settles = loop_overflows (level_of o) o x y line rest e h a is;
      ordered = omega arith;
      sooner = unread_near o rest e;
    }

own_fails : (o : Binary) (l r : Tree) → TreeFails l → TreeFails r → (rest : Line) (e : ExpressionFault) → Fits (level_of o) l
    → Fits (level_of o + 1) r → value (Infix o l r) ≡ Err e → Stops (level_of o + 1) rest
    → FailsBy (Level (level_of o)) (onto (spelling (Infix o l r)) rest) (spot (length rest.symbols) 2 e)
own_fails o l r left right rest e fl fr is s =
    let k = level_of o in
    let low = low_operator o in
    let after = onto (symbol.Punct (binary_punct o) ∷ spelling r) rest in
    let bound = spot (length rest.symbols) 2 e in
    bind_err (value l) (λ x. value r >>= binary_value o x) e is
    (λ none. left_fails o l (spelling r) rest e bound left fl none (omega (arith, length-append (spelling r) rest.symbols)))
    (λ x some more. left_by o l (spelling r) rest x bound fl some
    (bind_err (value r) (binary_value o x) e more
    (λ none. right_by o x (spelling r) rest bound (right (k + 1) rest e (omega arith) fr none (stops_more (k + 1) rest s)))
    (λ y rv none. near_fails o x y after rest e (operator_front k o (spelling r) rest refl) ((is_read r).whole (k + 1) rest y (omega arith) fr rv s) none)))

infix_fails : (o : Binary) (l r : Tree) → TreeFails l → TreeFails r → TreeFails (Infix o l r)
infix_fails o l r left right level rest e h fits is s =
    let k = level_of o in
    let low = low_operator o in
    descend_by level k (onto (spelling (Infix o l r)) rest) (spot (length rest.symbols) 2 e) fits.0 (omega arith)
    (own_fails o l r left right rest e fits.1 fits.2 is (stops_above (k - level) (level + 1) (k + 1) rest (omega (arith, fits.0)) s))

-- the right operand of an operator, where the symbol after it isn't read
right_unread : (o : Binary) (r : Tree) → AtomFails r → UnreadFails r → (x : ℤ) (rest : Line) (e d : ExpressionFault) → Fits (level_of o + 1) r
    → (value r >>= binary_value o x) ≡ Err e → next rest ≡ Err d
    → FailsBy (Loop (level_of o) x) (onto (symbol.Punct (binary_punct o) ∷ spelling r) rest) (spot (length rest.symbols) 1 d)
right_unread o r atom unread_r x rest e d fr is out =
    let k = level_of o in
    let low = low_operator o in
    let after = onto (symbol.Punct (binary_punct o) ∷ spelling r) rest in
    let front = operator_front k o (spelling r) rest refl in
    let bound = spot (length rest.symbols) 1 d in
    let sooner_bound = spot (length rest.symbols + 1) 2 e in
    elim (dec_lt k 9) [
      | yes below ↦ right_by o x (spelling r) rest bound
          (bind_err (value r) (binary_value o x) e is
          (λ none. unread_r (k + 1) rest e d (omega arith) fr none out)
          (λ y rv none. exactly (Level (k + 1)) (onto (spelling r) rest) bound (omega arith) (unreads r (k + 1) rest d (omega arith) fr (rw rv refl) out)))
      | no above ↦
          let ten : k + 1 ≡ 10 = omega (arith, above, low) in
          bind_err (value r) (binary_value o x) e is
          (λ none. right_by o x (spelling r) rest bound
          (by_earlier (Level (k + 1)) (onto (spelling r) rest) sooner_bound bound (omega arith)
          (to_level (k + 1) (onto (spelling r) rest) sooner_bound (omega arith) (atom rest e (rw ten at fr) none))))
          (λ y rv none.
          let tight : unread_at o rest ≡ length rest.symbols + 1 = grind (arith, common_steps) in
          record {
            halt = spot (unread_at o rest) 2 e;
            settles = loop_overflows k o x y after rest e front ((is_read r).whole (k + 1) rest y (omega arith) fr rv (rw ten (operand_stops rest))) none;
            ordered = omega arith;
            sooner = earlier (omega (arith, tight));
          })
    ]

infix_unread : (o : Binary) (l r : Tree) → TreeFails l → AtomFails r → UnreadFails r → UnreadFails (Infix o l r)
infix_unread o l r left atom unread_r level rest e d h fits is out =
    let k = level_of o in
    let low = low_operator o in
    let bound = spot (length rest.symbols) 1 d in
    descend_by level k (onto (spelling (Infix o l r)) rest) bound fits.0 (omega arith)
    (bind_err (value l) (λ x. value r >>= binary_value o x) e is
    (λ none. left_fails o l (spelling r) rest e bound left fits.1 none (omega (arith, length-append (spelling r) rest.symbols)))
    (λ x some more. left_by o l (spelling r) rest x bound fits.1 some (right_unread o r atom unread_r x rest e d fits.2 more out)))

record FailsSoon (t : Tree) : Type 0 where
  atom : AtomFails t
  tree : TreeFails t
  unread_tree : UnreadFails t

atom_soon : (t : Tree) → ((level : ℕ) → Fits level t → Fits 10 t) → AtomFails t → FailsSoon t
atom_soon t tight a = record { atom = a; tree = atom_tree t tight a; unread_tree = atom_unread t tight a }

fails_soon : (t : Tree) → FailsSoon t
fails_soon (Number n) = atom_soon (Number n) (λ level h. tt) (λ rest e fits is. absurd (let no_fault : ⊥ = cc in no_fault))
fails_soon (Group t) = atom_soon (Group t) (λ level h. h) (group_fails t (fails_soon t).tree)
fails_soon (Prefix o t) = atom_soon (Prefix o t) (λ level h. h) (prefix_fails o t (fails_soon t).atom)
fails_soon (Infix o l r) = grind (arith, infix_absurd, infix_fails, infix_unread, fails_soon l, fails_soon r)

-- ---- a possible fault

unread_most : (o : Binary) (rest : Line) → unread_at o rest ≤ length rest.symbols + 1
unread_most o rest = grind arith

within : (level : ℕ) (line : Line) (left order : ℕ) (e : ExpressionFault) → Fails level line left order e → left ≤ length line.symbols
within level line left order e h = grind (arith, length-append)

-- a fault that is met where the line begins is the one that is found
met_here : (level : ℕ) (line : Line) (left order : ℕ) (e : ExpressionFault) → level ≤ 10 → 1 ≤ order → (fails : Fails level line left order e)
    → IsAfterValue fails → FailsBy (Level level) line (spot left order e)
met_here level line left order e h ordered fails ok = exactly (Level level) line (spot left order e) ordered
    (fails_settles level line left order e h fails ok)

possible_here : (level : ℕ) (line : Line) (left order : ℕ) (e : ExpressionFault) → level ≤ 10 → Fails level line left order e
    → FailsBy (Level level) line (spot left order e)
possible_here level line left order e h (unread kind is) = met_here level line (length line.symbols) 1 kind h (omega arith) (unread kind is) tt
possible_here level line left order e h (wrong x kind is s out) =
    met_here level line (length line.symbols) 4 kind h (omega arith) (wrong x kind is s out) tt
possible_here level line left order e h (signed o t rest x kind begins fits is out) =
    met_here level line (length rest.symbols + 1) 2 kind h (omega arith) (signed o t rest x kind begins fits is out) tt
possible_here level line left order e h (operated o l r rest x y kind begins fits lv rv out s) =
    met_here level line (unread_at o rest) 2 kind h (omega arith) (operated o l r rest x y kind begins fits lv rv out s) tt
possible_here level line left order e h (unread_after t rest kind low begins fits is) =
    rw (line_is line rest (spelling t) begins)
    (split (value t)
    (λ v some. exactly (Level level) (onto (spelling t) rest) (spot (length rest.symbols) 1 kind) (omega arith)
    (unreads t level rest kind low fits (rw some refl) is))
    (λ d none. (fails_soon t).unread_tree level rest d kind low fits none is))
possible_here level line left order e h (unclosed t rest x kind begins fits is over out) =
    let opening = onto (symbol.Punct mark.LeftParen ∷ spelling t) rest in
    let bound = spot (length rest.symbols) 4 kind in
    split (value t)
    (λ v some. met_here level line (length rest.symbols) 4 kind h (omega arith) (unclosed t rest x kind begins fits is over out) (rw some refl))
    (λ d none. rw (line_is line rest (symbol.Punct mark.LeftParen ∷ spelling t) begins)
    (to_level level opening bound h
    (by_step (Level 0) (onto (spelling t) rest) Operand opening bound (λ f s. operand_in_group opening f refl refl s)
    (by_lower (Level 0) (onto (spelling t) rest) (spot (length rest.symbols) 2 d) bound refl (omega arith)
    ((fails_soon t).tree 0 rest d (omega arith) fits none (record { known = λ z. rw is refl; over = over_more 0 rest.symbols over }))))))

possible_front : (c : Front) (level : ℕ) (here : Line) (bound : Halt) → level ≤ 10 → FitsFront level c → bound.left ≤ length here.symbols
    → FailsBy (Level (wanted level c)) here bound → FailsBy (Level level) (onto (front_spelling c) here) bound
possible_front Here level here bound h is within a = a
possible_front (InGroup c) level here bound h is within a =
    let whole = onto (symbol.Punct mark.LeftParen ∷ front_spelling c) here in
    to_level level whole bound h
    (by_step (Level 0) (onto (front_spelling c) here) Operand whole bound (λ f s. operand_in_group whole f refl refl s)
    (possible_front c 0 here bound (omega arith) is within a))
possible_front (InPrefix o c) level here bound h is within a =
    let whole = onto (symbol.Punct (unary_punct o) ∷ front_spelling c) here in
    to_level level whole bound h
    (by_step (Level 10) (onto (front_spelling c) here) Operand whole bound
    (λ f s. operand_in_sign o whole f (sign_front o (front_spelling c) here) (down (onto (front_spelling c) here) (Err f) s))
    (possible_front c 10 here bound (omega arith) is within a))
possible_front (InInfix o l c) level here bound h is within a =
    let k = level_of o in
    let low = low_operator o in
    descend_by level k (onto (spelling l ++ (symbol.Punct (binary_punct o) ∷ front_spelling c)) here) bound is.0 (omega arith)
    (split (value l)
    (λ x some. left_by o l (front_spelling c) here x bound is.1 some
    (right_by o x (front_spelling c) here bound (possible_front c (k + 1) here bound (omega arith) is.2 within a)))
    (λ e none. left_fails o l (front_spelling c) here e bound (fails_soon l).tree is.1 none (omega (arith, length-append (front_spelling c) here.symbols))))

pub possible_by : (level : ℕ) (line : Line) (left order : ℕ) (e : ExpressionFault) → level ≤ 10 → Possible level line left order e
    → FailsBy (Level level) line (spot left order e)
possible_by level line left order e h q = grind (arith, possible_front, spot, within, possible_here, wanted_low)

-- ---- the first fault

before_of : (halt bound : Halt) → Sooner halt bound → Before halt.left halt.order bound.left bound.order
before_of halt bound h = grind arith

abbrev broken : Halt → Outcome
broken a = Err a

before_same : (a b : Halt) (left order : ℕ) → broken a ≡ broken b → Before a.left a.order left order → Before b.left b.order left order
before_same a b left order same h = let e : a ≡ b = cc in rw (← e) h

-- A fault with all that is finished before it having values is the first.
pub is_first : (level : ℕ) (line : Line) (found : Found) → level ≤ 10 → IsFault level line found → IsFirst level line found
is_first level line found low h = record {
  order = h.order;
  possible = h.met.possible;
  first = λ left other kind q.
      let by = possible_by level line left other kind low q in
      before_same by.halt (spot found.left h.order found.kind) left other
      (settles_once (Level level) line (broken by.halt) (broken (spot found.left h.order found.kind)) by.settles
      (fault_settles level line found.left h.order found.kind low h.met))
      (before_of by.halt (spot left other kind) by.sooner);
}

abbrev given : ℤ × Line → Outcome
given x = Ok x

apart : (x : ℤ × Line) (e : Halt) → given x ≡ broken e → ⊥
apart x e h = cc

-- A line with a value has no fault.
pub no_fault : (level : ℕ) (old new : Line) (v : ℤ) (left order : ℕ) (e : ExpressionFault) → level ≤ 10 → Reads level level old new v
    → Possible level old left order e → ⊥
no_fault level old new v left order e low r q =
    let by = possible_by level old left order e low q in
    apart (v, new) by.halt (settles_once (Level level) old (given (v, new)) (broken by.halt) (reads_settles level old new v low r) by.settles)

-- What is read is the line's value.
pub is_value : (old new : Line) (v : ℤ) (left : ℕ) → left ≡ length new.symbols → Reads 0 0 old new v → IsValue old (record { value = v; left = left })
is_value old new v left same r = record { rest = new; reads = r; after = same; faultless = λ l o d q. no_fault 0 old new v l o d (omega arith) r q }
