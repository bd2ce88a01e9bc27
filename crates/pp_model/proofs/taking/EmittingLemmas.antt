-- The next item of an expander, its items up to the end, and an argument alone have one outcome if the reader has one.
use Rattle.std.proofs.Common.{◌≡◌, ◌∙◌, ap, Bool, true, false, [], refl, sym, subst, Option, Some, None}
use Rattle.pp_model.specs.Reading.{Reading, Expander, Opening, opening}
use Rattle.pp_model.specs.Taking.{Takes}
use Rattle.pp_model.specs.Calls.{Answers, Called, no_call, refused, fits, Calls}
use Rattle.pp_model.specs.SpliceList.{outermost_call}
use Rattle.pp_model.specs.Emitting.{found_among, with_macro, Emits, itself, object, name_alone, call_refused, call, Collects, done, failed, item}
use Rattle.pp_model.specs.ItemCall.{call_among, item_call}
use Rattle.pp_model.specs.ExpansionLaws.{OneReads, OneAnswer, OneItem, OneList}
use Rattle.pp_model.specs.declared.read.Taken.{Taken}
use Rattle.pp_model.specs.declared.read.Taken.TheVariants as taken
use Rattle.pp_model.specs.declared.splice.CallPlace.{CallPlace}
use Rattle.pp_model.proofs.taking.TakingLemmas.{one_taking}
use Rattle.pp_model.proofs.calls.CallsLemmas.{one_call}

module _ {R : Type 0} (I : Reading R) (one : OneReads I) (A : Answers) (single : OneAnswer A) where
  -- what the next item is and where it was called from, by what is taken, by the macro that it opens, and by its call
  abbrev ByCall : Opening → Taken → Called → Expander R → Expander R → Taken → Expander R → Option CallPlace → Type 0
  ByCall m x (no_call y) f g o h k = (o ≡ x) × (h ≡ record g { held = Some y }) × (k ≡ outermost_call f.list)
  ByCall m x (refused fault) f g o h k = (o ≡ found_among g.list (taken.Fault fault)) × (h ≡ g) × (k ≡ call_among g.list o)
  ByCall m x (fits arguments line) f g o h k = (i : Emits I A (with_macro m line arguments g) o h) × (k ≡ item_call i)

  abbrev ByKind : Bool → Opening → Taken → Expander R → Taken → Expander R → Option CallPlace → Type 0
  ByKind false m x f o h k = (i : Emits I A (with_macro m m.token.location.line [] f) o h) × (k ≡ item_call i)
  ByKind true m x f o h k = (c : Called) × (g : Expander R) × Calls I A m.definition f c g × ByCall m x c f g o h k

  abbrev ByOpening : Option Opening → Taken → Expander R → Taken → Expander R → Option CallPlace → Type 0
  ByOpening None x f o h k = (o ≡ found_among f.list x) × (h ≡ f) × (k ≡ call_among f.list o)
  ByOpening (Some m) x f o h k = ByKind m.definition.function_like m x f o h k

  of_kind : (b : Bool) (m : Opening) (x : Taken) (f : Expander R) (o : Taken) (h : Expander R) (k : Option CallPlace) → m.definition.function_like ≡ b
      → ByKind b m x f o h k
      → ByOpening (Some m) x f o h k
  of_kind b m x f o h k t = subst (λ b. ByKind b m x f o h k) (sym t)

  first_taken : (o : Taken) (e h : Expander R) (i : Emits I A e o h)
      → (x : Taken) × (f : Expander R) × Takes I e x f × ByOpening (opening I f x) x f o h (item_call i)
  first_taken o e h (itself x o1 e1 f a k p) = (x, h, a, rw k (p, refl, refl))
  first_taken o e h (object x o1 m e1 f h1 a k t i) = (x, f, a, rw k (of_kind false m x f o h (item_call i) t (i, refl)))
  first_taken o e h (name_alone x y o1 m e1 f g h1 a k t c p q) =
      (x, f, a, rw k (of_kind true m x f o h (outermost_call f.list) t (no_call y, g, c, (p, q, refl))))
  first_taken o e h (call_refused x o1 fault m e1 f g a k t c p) =
      (x, f, a, rw k (of_kind true m x f o h (call_among g.list o) t (refused fault, h, c, (p, refl, refl))))
  first_taken o e h (call x o1 arguments line m e1 f g h1 a k t c i) =
      (x, f, a, rw k (of_kind true m x f o h (item_call i) t (fits arguments line, g, c, (i, refl))))

  -- where this is taken, an item comes so
  after_taken : (x o : Taken) (e f h : Expander R) → Takes I e x f → (i : Emits I A e o h) → ByOpening (opening I f x) x f o h (item_call i)
  after_taken x o e f h a b =
      let first = first_taken o e h b in
      let same = one_taking I one x first.0 e f first.1 a first.2 in
      rw (same.0, same.1) first.3

  -- where this macro opens, an item comes so
  after_opened : (b : Bool) (m : Opening) (x o : Taken) (e f h : Expander R) → Takes I e x f → opening I f x ≡ Some m → m.definition.function_like ≡ b
      → (i : Emits I A e o h) → ByKind b m x f o h (item_call i)
  after_opened b m x o e f h a k t i = subst (λ b. ByKind b m x f o h (item_call i)) t (rw k at (after_taken x o e f h a i))

  -- after one call another comes to the same
  after_call : (m : Opening) (x y : Taken) (c : Called) (e f g : Expander R) (k : Option CallPlace) → Calls I A m.definition e c f
      → ByKind true m x e y g k
      → ByCall m x c e f y g k
  after_call m x y c e f g k a b =
      let same = one_call I one A single m.definition c b.0 e f b.1 a b.2 in
      rw (same.0, same.1) b.3

  pub one_item : OneItem I A
  one_item x y e f g (itself u x1 e1 f1 a k p) b =
      let other = rw k at (after_taken u y e f g a b) in
      let same : x ≡ y = p ∙ sym other.0 in
      (same, sym other.1, ap (call_among f.list) same ∙ sym other.2)
  one_item x y e f g (object u x1 m e1 f1 f2 a k t i) b =
      let other = after_opened false m u y e f1 g a k t b in
      let same = one_item x y (with_macro m m.token.location.line [] f1) f g i other.0 in
      (same.0, same.1, same.2 ∙ sym other.1)
  one_item x y e f g (name_alone u l x1 m e1 f1 f2 f3 a k t c p q) b =
      let other = after_call m u y (no_call l) f1 f2 g (item_call b) c (after_opened true m u y e f1 g a k t b) in
      (p ∙ sym other.0, q ∙ sym other.1, sym other.2)
  one_item x y e f g (call_refused u x1 fault m e1 f1 f2 a k t c p) b =
      let other = after_call m u y (refused fault) f1 f g (item_call b) c (after_opened true m u y e f1 g a k t b) in
      let same : x ≡ y = p ∙ sym other.0 in
      (same, sym other.1, ap (call_among f.list) same ∙ sym other.2)
  one_item x y e f g (call u x1 arguments line m e1 f1 f2 f3 a k t c i) b =
      let other = after_call m u y (fits arguments line) f1 f2 g (item_call b) c (after_opened true m u y e f1 g a k t b) in
      let same = one_item x y (with_macro m line arguments f2) f g i other.0 in
      (same.0, same.1, same.2 ∙ sym other.1)

  pub one_list : OneList I A
  one_list x y e (done e1 f x1 a p) (done e2 g y1 b q) = p ∙ sym q
  one_list x y e (done e1 f x1 a p) (failed d e2 g y1 b q) = let bad = (one_item taken.End (taken.Fault d) e f g a b).0 in cc
  one_list x y e (done e1 f x1 a p) (item u s y1 e2 g b v q) = let bad = (one_item taken.End (taken.Token u) e f g a b).0 in cc
  one_list x y e (failed c e1 f x1 a p) (done e2 g y1 b q) = let bad = (one_item (taken.Fault c) taken.End e f g a b).0 in cc
  one_list x y e (failed c e1 f x1 a p) (failed d e2 g y1 b q) =
      let same = (one_item (taken.Fault c) (taken.Fault d) e f g a b).0 in
      let fault : c ≡ d = cc in
      p ∙ (rw fault (sym q))
  one_list x y e (failed c e1 f x1 a p) (item u s y1 e2 g b v q) = let bad = (one_item (taken.Fault c) (taken.Token u) e f g a b).0 in cc
  one_list x y e (item t r x1 e1 f a i p) (done e2 g y1 b q) = let bad = (one_item (taken.Token t) taken.End e f g a b).0 in cc
  one_list x y e (item t r x1 e1 f a i p) (failed d e2 g y1 b q) = let bad = (one_item (taken.Token t) (taken.Fault d) e f g a b).0 in cc
  one_list x y e (item t r x1 e1 f a i p) (item u s y1 e2 g b v q) =
      let same = one_item (taken.Token t) (taken.Token u) e f g a b in
      let token : t ≡ u = (let z = same.0 in cc) in
      let v1 : Collects I A f s = rw same.1 v in
      let rest = one_list r s f i v1 in
      p ∙ (rw (token, rest) (sym q))
