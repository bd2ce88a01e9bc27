-- The search for a call's arguments, and the call, have one outcome if the reader and the answers have one.
use Rattle.std.proofs.Common.{◌≡◌, ◌∙◌, ℕ, List, [], refl, sym, Option, Some, None}
use Rattle.std.specs.Prelude.{Result, Ok, Err}
use Rattle.pp_lexer.specs.declared.token.PreprocessorError.TheVariants.{IntegerOverflow, UnexpectedEndOfInput}
use Rattle.pp_model.specs.declared.place.Place.{Place}
use Rattle.pp_model.specs.Places.{PlacedFault, place_of, unasked}
use Rattle.pp_model.specs.Definitions.{Definition}
use Rattle.pp_model.specs.declared.read.Read.{Read}
use Rattle.pp_model.specs.Reading.{Reading, Expander}
use Rattle.pp_model.specs.Taking.{Takes}
use Rattle.pp_model.specs.Calls.{Nesting, closes, within, too_many, nesting, before, Gathered, Gathers, closed, inside, overfull, ended, failed, Answers, site_of, Called, no_call, refused, called_by, paren_at, Calls, alone, broken, whole}
use Rattle.pp_model.specs.ExpansionLaws.{OneReads, OneGathering, OneAnswer, OneCall}
use Rattle.pp_model.specs.declared.read.Taken.{Taken}
use Rattle.pp_model.specs.declared.read.Taken.TheVariants as taken
use Rattle.pp_model.proofs.taking.TakingLemmas.{one_pair, one_taking}

module _ {R : Type 0} (I : Reading R) (one : OneReads I) where
  -- what a search gathers, by what it takes first
  abbrev ByNesting : Nesting → Read → Expander R → Result Gathered PlacedFault → Expander R → Type 0
  ByNesting closes t f x g = (x ≡ Ok (record { tokens = []; closing = t.token.location })) × (g ≡ f)
  ByNesting (within k) t f x g = (rest : Result Gathered PlacedFault) × Gathers I k (place_of t) f rest g × (x ≡ before t rest)
  ByNesting too_many t f x g = (x ≡ Err (IntegerOverflow, place_of t)) × (g ≡ f)

  abbrev ByTaken : ℕ → Place → Taken → Expander R → Result Gathered PlacedFault → Expander R → Type 0
  ByTaken n last (taken.Token t) f x g = ByNesting (nesting n t.token.value) t f x g
  ByTaken n last (taken.Fault fault) f x g = (x ≡ Err (unasked fault)) × (g ≡ f)
  ByTaken n last taken.End f x g = (x ≡ Err (UnexpectedEndOfInput, last)) × (g ≡ f)

  first_taken : (n : ℕ) (last : Place) (x : Result Gathered PlacedFault) (e g : Expander R) → Gathers I n last e x g
      → (o : Taken) × (f : Expander R) × Takes I e o f × ByTaken n last o f x g
  first_taken n last x e g (closed n1 l1 t e1 f x1 a h p) = (taken.Token t, g, a, rw h (p, refl))
  first_taken n last x e g (inside n1 k l1 t e1 f g1 rest x1 a h u p) = (taken.Token t, f, a, rw h (rest, u, p))
  first_taken n last x e g (overfull n1 l1 t e1 f x1 a h p) = (taken.Token t, g, a, rw h (p, refl))
  first_taken n last x e g (ended n1 l1 e1 f x1 a p) = (taken.End, g, a, (p, refl))
  first_taken n last x e g (failed n1 l1 fault e1 f x1 a p) = (taken.Fault fault, g, a, (p, refl))

  -- where this is taken, a search goes on so
  after_taken : (n : ℕ) (last : Place) (o : Taken) (x : Result Gathered PlacedFault) (e f g : Expander R) → Takes I e o f → Gathers I n last e x g
      → ByTaken n last o f x g
  after_taken n last o x e f g a b =
      let first = first_taken n last x e g b in
      let same = one_taking I one o first.0 e f first.1 a first.2 in
      rw (same.0, same.1) first.3

  pub one_gathering : OneGathering I
  one_gathering n last x y e f g (closed n1 l1 t e1 f1 x1 a h p) b = one_pair (p, refl) (rw h at (after_taken n last (taken.Token t) y e f g a b))
  one_gathering n last x y e f g (inside n1 k l1 t e1 f1 f2 r x1 a h u p) b =
      let other = rw h at (after_taken n last (taken.Token t) y e f1 g a b) in
      let rest = one_gathering k (place_of t) r other.0 f1 f g u other.1 in
      (p ∙ rw rest.0 (sym other.2), rest.1)
  one_gathering n last x y e f g (overfull n1 l1 t e1 f1 x1 a h p) b = one_pair (p, refl) (rw h at (after_taken n last (taken.Token t) y e f g a b))
  one_gathering n last x y e f g (ended n1 l1 e1 f1 x1 a p) b = one_pair (p, refl) (after_taken n last taken.End y e f g a b)
  one_gathering n last x y e f g (failed n1 l1 fault e1 f1 x1 a p) b = one_pair (p, refl) (after_taken n last (taken.Fault fault) y e f g a b)

  module _ (A : Answers) (single : OneAnswer A) (d : Definition) where
    -- what a call comes to, by whether a `(` is taken, and by what is gathered after it
    abbrev ByGathered : Place → Result Gathered PlacedFault → Called → Expander R → Type 0
    ByGathered paren (Ok gathered) c g =
        (answer : Result (List (List Read)) PlacedFault) × A d (site_of I g paren gathered.tokens) answer × (c ≡ called_by gathered.closing.line answer)
    ByGathered paren (Err fault) c g = c ≡ refused fault

    abbrev ByParen : Option Place → Taken → Expander R → Called → Expander R → Type 0
    ByParen None o f c g = (c ≡ no_call o) × (g ≡ f)
    ByParen (Some paren) o f c g = (found : Result Gathered PlacedFault) × Gathers I 0 paren f found g × ByGathered paren found c g

    by_paren : (c : Called) (e g : Expander R) → Calls I A d e c g → (o : Taken) × (f : Expander R) × Takes I e o f × ByParen (paren_at o) o f c g
    by_paren c e g (alone o e1 f c1 a h p) = (o, g, a, rw h (p, refl))
    by_paren c e g (broken o paren fault e1 f g1 c1 a h u p) = (o, f, a, rw h (Err fault, u, p))
    by_paren c e g (whole o paren gathered answer e1 f g1 c1 a h u s p) = (o, f, a, rw h (Ok gathered, u, (answer, s, p)))

    one_by_gathered : (paren : Place) (found : Result Gathered PlacedFault) (x y : Called) (g : Expander R) → ByGathered paren found x g
        → ByGathered paren found y g → x ≡ y
    one_by_gathered paren (Ok gathered) x y g a b =
        a.2 ∙ rw (single d (site_of I g paren gathered.tokens) a.0 b.0 a.1 b.1) (sym b.2)
    one_by_gathered paren (Err fault) x y g a b = a ∙ sym b

    one_by_paren : (found : Option Place) (o : Taken) (x y : Called) (e f g : Expander R) → ByParen found o e x f → ByParen found o e y g
        → (x ≡ y) × (f ≡ g)
    one_by_paren None o x y e f g a b = one_pair a b
    one_by_paren (Some paren) o x y e f g a b =
        let same = one_gathering 0 paren a.0 b.0 e f g a.1 b.1 in
        (one_by_gathered paren a.0 x y f a.2 (rw (same.0, same.1) b.2), same.1)

  pub one_call : (A : Answers) → OneAnswer A → OneCall I A
  one_call A single d x y e f g a b =
      let first = by_paren A single d x e f a in
      let other = by_paren A single d y e g b in
      let same = one_taking I one first.0 other.0 e first.1 other.1 first.2 other.2 in
      one_by_paren A single d (paren_at first.0) first.0 x y first.1 f g first.3 (rw (same.0, same.1) other.3)
