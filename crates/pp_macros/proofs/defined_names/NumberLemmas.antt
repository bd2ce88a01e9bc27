-- Names with their numbers: more names at the end leave each number as it is.
use Rattle.std.proofs.Common.{◌≡◌, ◌∙◌, ℕ, zero, suc, ◌+◌, ◌<◌, Bool, true, false, cond, List, [], ◌∷◌, ◌++◌, length, set, get_or, Option, Some, None, Bor, refl, sym, ap, subst, arith, tests}
use Rattle.std.specs.Prelude.{position, slice_get, IfSome}
use Rattle.std.specs.List.{position_from}
use Rattle.std.specs.Option.{option_copied}
use Rattle.std.specs.Slice.{IsItemAt}
use Rattle.std.specs.declared.rc.Rc.{Rc}
use Rattle.std.proofs.lemmas.Iterator.Adapters.{position_from-zero}
use Rattle.std.proofs.lemmas.Option.{same_Some}
use Rattle.pp_lexer.specs.declared.token.TokenValue.{TokenValue}
use Rattle.pp_lexer.specs.declared.token.TokenValue.TheVariants.{Ident}
use Rattle.pp_model.specs.Names.{Name, is_same_name}
use Rattle.pp_macros.specs.declared.define.BodyEntry.{BodyEntry}
use Rattle.pp_macros.specs.inner.Bodies.{noted_at, noted_by, noted_in}
use Rattle.pp_macros.specs.inner.Defined.{Macro, Numbered, AreNumbered, AreAllNumbered, AreOfNames, GrowAtEnd, defined_as, names_in, numbered_by}
use Rattle.pp_macros.proofs.defined_names.DefinitionsLemmas.{names_as}

-- what is found is found if more follows
from_more : {B : Type 0} (p : B → Bool) (i : ℕ) (xs ys : List B) (k : ℕ) → position_from p i xs ≡ Some k → position_from p i (xs ++ ys) ≡ Some k
from_more p i [] ys k e = cc
from_more p i (x ∷ xs) ys k e = by (p x) e (λ h. from_more p (i + 1) xs ys k h)
  where
    by : (b : Bool) → cond b (Some i) (position_from p (i + 1) xs) ≡ Some k
        → (position_from p (i + 1) xs ≡ Some k → position_from p (i + 1) (xs ++ ys) ≡ Some k)
        → cond b (Some i) (position_from p (i + 1) (xs ++ ys)) ≡ Some k
    by true e later = e
    by false e later = later e

pub position_more : {B : Type 0} (p : B → Bool) (xs ys : List B) (k : ℕ) → position p xs ≡ Some k → position p (xs ++ ys) ≡ Some k
position_more p xs ys k e = position_from-zero p (xs ++ ys) ∙ from_more p 0 xs ys k (sym (position_from-zero p xs) ∙ e)

pub numbered_more : (old new : List Name) (noted : List Numbered) → GrowAtEnd old new → AreNumbered old noted → AreNumbered new noted
numbered_more old new [] grow right = tt
numbered_more old new (n ∷ noted) grow right =
    (rw grow.1 (position_more (is_same_name n.name) old grow.0 n.number right.0), numbered_more old new noted grow right.1)

-- the numbers of two lists
pub numbered_both : (names : List Name) (xs ys : List Numbered) → AreNumbered names xs → AreNumbered names ys → AreNumbered names (xs ++ ys)
numbered_both names [] ys p q = q
numbered_both names (x ∷ xs) ys p q = (p.0, numbered_both names xs ys p.1 q)

pub numbered_parts : (names : List Name) (xs ys : List Numbered) → AreNumbered names (xs ++ ys) → AreNumbered names xs × AreNumbered names ys
numbered_parts names [] ys h = (tt, h)
numbered_parts names (x ∷ xs) ys h = let rest = numbered_parts names xs ys h.1 in ((h.0, rest.0), rest.1)

-- the number of one of the entries of a body
entry_right : (names : List Name) (entries : List BodyEntry) (k : ℕ) (e : BodyEntry) → k < length entries → AreNumbered names (noted_in entries)
    → AreNumbered names (noted_at (get_or entries k e))
entry_right names [] k e within right = absurd (omega arith)
entry_right names (f ∷ rest) zero e within right = (numbered_parts names (noted_at f) (noted_in rest) right).0
entry_right names (f ∷ rest) (suc k) e within right = entry_right names rest k e (omega arith) (numbered_parts names (noted_at f) (noted_in rest) right).1

pub entry_numbered : (entries : List BodyEntry) (k : ℕ) (found : Option (Bor BodyEntry)) → IsItemAt entries k found
    → IfSome found (λ r. (names : List Name) → AreNumbered names (noted_in entries) → AreNumbered names (noted_at r.now))
entry_numbered entries k None is = tt
entry_numbered entries k (Some r) is = λ names right.
    let within : k < length entries = grind (arith, tests, is.0) in
    rw is.1 (entry_right names entries k r.now within right)

-- an entry with another number
pub numbered_set : (names : List Name) (entries : List BodyEntry) (k : ℕ) (e : BodyEntry) → AreNumbered names (noted_at e)
    → AreNumbered names (noted_in entries) → AreNumbered names (noted_in (set entries k e))
numbered_set names [] k e new right = tt
numbered_set names (f ∷ rest) zero e new right =
    numbered_both names (noted_at e) (noted_in rest) new (numbered_parts names (noted_at f) (noted_in rest) right).1
numbered_set names (f ∷ rest) (suc k) e new right =
    let parts = numbered_parts names (noted_at f) (noted_in rest) right in
    numbered_both names (noted_at f) (noted_in (set rest k e)) parts.0 (numbered_set names rest k e new parts.1)

-- an entry that stays as it is
pub numbered_same : (names : List Name) (entries : List BodyEntry) (k : ℕ) (e other : BodyEntry) → other ≡ get_or entries k e
    → AreNumbered names (noted_in entries) → AreNumbered names (noted_in (set entries k other))
numbered_same names [] k e other is right = tt
numbered_same names (f ∷ rest) zero e other is right = rw is right
numbered_same names (f ∷ rest) (suc k) e other is right =
    let parts = numbered_parts names (noted_at f) (noted_in rest) right in
    numbered_both names (noted_at f) (noted_in (set rest k other)) parts.0 (numbered_same names rest k e other is parts.1)

-- a name with the number at which it is found, if it is found
pub numbered_found : (names : List Name) (name : Name) (number : Option ℕ) (value : TokenValue) → value ≡ Ident name
    → number ≡ position (is_same_name name) names → AreNumbered names (noted_by number value)
numbered_found names name None value is found = tt
numbered_found names name (Some k) value is found = rw is (sym found, tt)

module _ {Z : Type 0} where
  abbrev IsRight : List Name → Option (Rc Macro Z) → Type 0
  IsRight names m = IfSome m (λ (shared : Rc Macro Z). AreNumbered names (numbered_by shared.value))

  right_more : (old new : List Name) (m : Option (Rc Macro Z)) → GrowAtEnd old new → IsRight old m → IsRight new m
  right_more old new None grow right = tt
  right_more old new (Some shared) grow right = numbered_more old new (numbered_by shared.value) grow right

  all_more : (old new : List Name) (macros : List (Option (Rc Macro Z))) → GrowAtEnd old new → AreAllNumbered old macros → AreAllNumbered new macros
  all_more old new [] grow right = tt
  all_more old new (m ∷ macros) grow right = (right_more old new m grow right.0, all_more old new macros grow right.1)

  -- another macro, or none
  pub all_set : (names : List Name) (macros : List (Option (Rc Macro Z))) (k : ℕ) (m : Option (Rc Macro Z)) → IsRight names m
      → AreAllNumbered names macros → AreAllNumbered names (set macros k m)
  all_set names [] k m new right = tt
  all_set names (o ∷ macros) zero m new right = (new, right.1)
  all_set names (o ∷ macros) (suc k) m new right = (right.0, all_set names macros k m new right.1)

  all_push : (names : List Name) (macros : List (Option (Rc Macro Z))) (m : Option (Rc Macro Z)) → IsRight names m
      → AreAllNumbered names macros → AreAllNumbered names (macros ++ m ∷ [])
  all_push names [] m new right = (new, tt)
  all_push names (o ∷ macros) m new right = (right.0, all_push names macros m new right.1)

  -- a macro of a new name
  pub all_pushed : (names : List Name) (macros : List (Option (Rc Macro Z))) (name : Name) (m : Option (Rc Macro Z)) → IsRight (names ++ name ∷ []) m
      → AreAllNumbered names macros → AreAllNumbered (names ++ name ∷ []) (macros ++ m ∷ [])
  all_pushed names macros name m new right =
      all_push (names ++ name ∷ []) macros m new (all_more names (names ++ name ∷ []) macros (name ∷ [], refl) right)

  -- the macro at a number
  pub right_at : (names : List Name) (macros : List (Option (Rc Macro Z))) (k : ℕ) (m : Option (Rc Macro Z)) → AreAllNumbered names macros
      → slice_get macros k ≡ Some m → IsRight names m
  right_at names [] k m right is = cc
  right_at names (o ∷ macros) zero m right is = rw (← same_Some o m is) right.0
  right_at names (o ∷ macros) (suc k) m right is = right_at names macros k m right.1 is

  right_shown : (names : List Name) (o : Option (Bor (Rc Macro Z))) (m : Option (Rc Macro Z)) → option_copied o ≡ m → IsRight names m
      → IfSome o (λ (b : Bor (Rc Macro Z)). AreNumbered names (numbered_by b.now.value))
  right_shown names None m is right = tt
  right_shown names (Some b) m is right = rw (← is) at right

  pub shown_right : (names : List Name) (macros : List (Option (Rc Macro Z))) (k : ℕ) (o : Option (Bor (Rc Macro Z))) (m : Option (Rc Macro Z))
      → AreOfNames names macros → AreAllNumbered names macros → option_copied o ≡ m → slice_get macros k ≡ Some m
      → IfSome o (λ (b : Bor (Rc Macro Z)). AreNumbered (names_in (defined_as names macros)) (numbered_by b.now.value))
  shown_right names macros k o m of right shown is =
      subst (λ (ns : List Name). IfSome o (λ (b : Bor (Rc Macro Z)). AreNumbered ns (numbered_by b.now.value))) (sym (names_as names macros of))
      (right_shown names o m shown (right_at names macros k m right is))

-- a macro with its number and right numbers in its body
pub right_new : (names : List Name) (name : Name) (k : ℕ) (m : Macro) → m.name ≡ name → m.number ≡ k → position (is_same_name name) names ≡ Some k
    → AreNumbered names m.noted → AreNumbered names (numbered_by m)
right_new names name k m named number found noted =
    (ap (λ (n : Name). position (is_same_name n) names) named ∙ found ∙ ap (λ (n : ℕ). Some n) (sym number), noted)
