-- The operand of a `defined` has one outcome.
use Rattle.std.proofs.Common.{◌≡◌, ◌∙◌, Bool, refl, sym, subst, Option, Some, None}
use Rattle.std.specs.Prelude.{MatchOption, Result, Ok}
use Rattle.pp_model.specs.declared.place.Place.{Place}
use Rattle.pp_model.specs.Places.{PlacedFault}
use Rattle.pp_model.specs.Names.{Name}
use Rattle.pp_model.specs.Reading.{Expander, Listed, line_reading}
use Rattle.pp_model.specs.Taking.{Takes}
use Rattle.pp_model.specs.Calls.{Answers, paren_at}
use Rattle.pp_model.specs.Emitting.{Emits}
use Rattle.pp_model.specs.ItemCall.{item_call}
use Rattle.pp_model.specs.LineWords.{IsUnwanted, name_in, is_defined, closed_by, InParentheses, Operand}
use Rattle.pp_model.specs.ExpansionLaws.{OneAnswer, OneOperand}
use Rattle.pp_model.specs.declared.read.Taken.{Taken}
use Rattle.pp_model.specs.declared.splice.CallPlace.{CallPlace}
use Rattle.pp_model.specs.declared.word.LineKind.{LineKind}
use Rattle.pp_model.proofs.taking.TakingLemmas.{one_pair, line_reads_one, one_taking}
use Rattle.pp_model.proofs.taking.EmittingLemmas.{one_item}

module _ (A : Answers) (single : OneAnswer A) (kind : LineKind) (directive : Place) where
  -- two takings take one outcome, so what is said of the second is said of the first
  of_first : (Of : Taken → Expander Listed → Type 0) (e f g : Expander Listed) (x y : Taken) → Takes line_reading e x f → Takes line_reading e y g
      → Of y g → Of x f
  of_first Of e f g x y a b of =
      let same = one_taking line_reading line_reads_one x y e f g a b in
      subst (λ z. Of z f) (sym same.0) (subst (Of y) (sym same.1) of)

  -- after the `(`
  abbrev Inside : Option Name → Taken → Expander Listed → Result Bool PlacedFault → Expander Listed → Type 0
  Inside name o f r g =
      MatchOption name (IsUnwanted directive o f r g)
      (λ n. (x : Taken) × (emits : Emits line_reading A f x g) × (r ≡ closed_by kind directive (is_defined g n) (item_call emits) x))

  closed_alike : (n : Name) (o p : Taken) (f g : Expander Listed) (k l : Option CallPlace) → o ≡ p → f ≡ g → k ≡ l
      → closed_by kind directive (is_defined f n) k o ≡ closed_by kind directive (is_defined g n) l p
  closed_alike n o p f g k l a b c = rw (a, b, c) refl

  one_inside : (m : Option Name) (o : Taken) (x y : Result Bool PlacedFault) (e f g : Expander Listed) → Inside m o e x f → Inside m o e y g → (x ≡ y) × (f ≡ g)
  one_inside None o x y e f g a b = one_pair a b
  one_inside (Some n) o x y e f g a b =
      let item = one_item line_reading line_reads_one A single a.0 b.0 e f g a.1 b.1 in
      (a.2 ∙ closed_alike n a.0 b.0 f g (item_call a.1) (item_call b.1) item.0 item.1 item.2 ∙ sym b.2, item.1)

  one_in_parentheses : (x y : Result Bool PlacedFault) (e f g : Expander Listed) → InParentheses kind directive A e x f → InParentheses kind directive A e y g
      → (x ≡ y) × (f ≡ g)
  one_in_parentheses x y e f g a b =
      let there = of_first (λ o h. Inside (name_in o) o h y g) e a.1 b.1 a.0 b.0 a.2 b.2 b.3 in
      one_inside (name_in a.0) a.0 x y a.1 f g a.3 there

  -- the whole operand
  abbrev Whole : Option Place → Option Name → Taken → Expander Listed → Result Bool PlacedFault → Expander Listed → Type 0
  Whole paren name o f r g =
      MatchOption paren (MatchOption name (IsUnwanted directive o f r g) (λ n. (r ≡ Ok (is_defined f n)) × (g ≡ f)))
      (λ paren. InParentheses kind directive A f r g)

  one_whole : (p : Option Place) (m : Option Name) (o : Taken) (x y : Result Bool PlacedFault) (e f g : Expander Listed) → Whole p m o e x f
      → Whole p m o e y g → (x ≡ y) × (f ≡ g)
  one_whole None None o x y e f g a b = one_pair a b
  one_whole None (Some n) o x y e f g a b = one_pair a b
  one_whole (Some paren) m o x y e f g a b = one_in_parentheses x y e f g a b

  one_of_kind : (x y : Result Bool PlacedFault) (e f g : Expander Listed) → Operand kind directive A e x f → Operand kind directive A e y g → (x ≡ y) × (f ≡ g)
  one_of_kind x y e f g a b =
      let there = of_first (λ o h. Whole (paren_at o) (name_in o) o h y g) e a.1 b.1 a.0 b.0 a.2 b.2 b.3 in
      one_whole (paren_at a.0) (name_in a.0) a.0 x y a.1 f g a.3 there

pub one_operand : (A : Answers) → OneAnswer A → OneOperand A
one_operand A single kind directive x y e f g = one_of_kind A single kind directive x y e f g
