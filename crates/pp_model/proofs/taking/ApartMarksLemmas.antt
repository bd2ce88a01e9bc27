-- No list holds two end marks of one name: entries only leave the list's front, and a macro opens only where it isn't open.
use Rattle.std.proofs.Common.{◌≡◌, ℕ, List, [], ◌∷◌, refl, sym, ap, Some}
use Rattle.pp_model.specs.declared.read.Read.{Read}
use Rattle.pp_model.specs.Definitions.{Definition}
use Rattle.pp_model.specs.SpliceList.{after_marks, open_names}
use Rattle.pp_model.specs.Reading.{Reading, Expander, Opening, opening}
use Rattle.pp_model.specs.Taking.{Takes, Fetches, held, listed, read}
use Rattle.pp_model.specs.Calls.{Answers, Called, Calls}
use Rattle.pp_model.specs.Emitting.{with_macro, Emits, itself, object, name_alone, call_refused, call, called_at}
use Rattle.pp_model.specs.ApartMarks.{AreApart, HasApartMarks, IsRest, OnlyTakesEntries, OpensNew, KeepsMarksApart, StartsApart}
use Rattle.pp_model.specs.declared.read.Taken.{Taken}
use Rattle.pp_model.specs.declared.splice.Entry.TheVariants.{Plain}
use Rattle.pp_model.proofs.calls.SearchLeadsLemmas.{gathering_leads, call_leads}
use Rattle.pp_model.proofs.taking.OpenNamesLemmas.{rest_of_rest, after_marks_is_rest, rest_opens_nothing, rest_is_apart, open_spliced, opening_not_open}

module _ {R : Type 0} (I : Reading R) where
  fetching_leaves_rest : (o : Taken) (e f : Expander R) → Fetches I e o f → IsRest e.list f.list
  fetching_leaves_rest o e f (held o1 e1 f1 h p) = ([], sym (ap (λ x. x.list) p))
  fetching_leaves_rest o e f (listed o1 token rest e1 f1 h b is p) =
      let left : f.list ≡ rest = ap (λ x. x.list) p in
      rw left (rest_of_rest e.list (after_marks e.list) rest (after_marks_is_rest e.list) (Plain token ∷ [], b))
  fetching_leaves_rest o e f (read x o1 reader e1 f1 h b r is p) =
      let left : f.list ≡ [] = ap (λ y. y.list) p in
      rw left (rw b at (after_marks_is_rest e.list))

  pub taking_leaves_rest : (o : Taken) (e f : Expander R) → Takes I e o f → IsRest e.list f.list
  taking_leaves_rest o e f t = fetching_leaves_rest t.first e f t.fetches

  -- what is left of a list goes on being so
  abbrev LeavesRest : Expander R → Expander R → Type 0
  LeavesRest e f = IsRest e.list f.list

  leaves_rest_then : (e f g : Expander R) → LeavesRest e f → LeavesRest f g → LeavesRest e g
  leaves_rest_then e f g = rest_of_rest e.list f.list g.list

  pub call_leaves_rest : (A : Answers) (d : Definition) (c : Called) (e f : Expander R) → Calls I A d e c f → IsRest e.list f.list
  call_leaves_rest = call_leads I LeavesRest leaves_rest_then taking_leaves_rest

  pub only_takes_entries : (A : Answers) → OnlyTakesEntries I A
  only_takes_entries A =
      record { taking = taking_leaves_rest; gathering = gathering_leads I LeavesRest leaves_rest_then taking_leaves_rest; call = call_leaves_rest A }

  pub opens_new : OpensNew I
  opens_new o m d e rest t h r = rest_opens_nothing m.name e.list rest r (opening_not_open I o m d e t h)

  pub opened_is_apart : (o : Taken) (m : Opening) (line : ℕ) (arguments : List (List Read)) (d e f : Expander R) → Takes I d o e → opening I e o ≡ Some m
      → IsRest e.list f.list → HasApartMarks f.list → HasApartMarks (with_macro m line arguments f).list
  opened_is_apart o m line arguments d e f t h r apart =
      let both : AreApart (m.name ∷ open_names f.list) = (opens_new o m d e f.list t h r, apart) in
      rw (open_spliced m.name m.definition (called_at m.text m.token line) arguments f.list) both

  pub item_keeps_apart : (A : Answers) (o : Taken) (e f : Expander R) → Emits I A e o f → HasApartMarks e.list → HasApartMarks f.list
  item_keeps_apart A o e f (itself x o1 e1 f1 t h p) apart = rest_is_apart e.list f.list (taking_leaves_rest x e f t) apart
  item_keeps_apart A o e f (object x o1 m e1 g f1 t h k i) apart =
      let taken = rest_is_apart e.list g.list (taking_leaves_rest x e g t) apart in
      item_keeps_apart A o (with_macro m m.token.location.line [] g) f i (opened_is_apart x m m.token.location.line [] e g g t h ([], refl) taken)
  item_keeps_apart A o e f (name_alone x y o1 m e1 g g1 f1 t h k c p q) apart =
      let taken = rest_is_apart e.list g.list (taking_leaves_rest x e g t) apart in
      let called = rest_is_apart g.list g1.list (call_leaves_rest A m.definition _ g g1 c) taken in
      let same : f.list ≡ g1.list = ap (λ z. z.list) q in
      rw same called
  item_keeps_apart A o e f (call_refused x o1 fault m e1 g f1 t h k c p) apart =
      let taken = rest_is_apart e.list g.list (taking_leaves_rest x e g t) apart in
      rest_is_apart g.list f.list (call_leaves_rest A m.definition _ g f c) taken
  item_keeps_apart A o e f (call x o1 arguments line m e1 g g1 f1 t h k c i) apart =
      let taken = rest_is_apart e.list g.list (taking_leaves_rest x e g t) apart in
      let left = call_leaves_rest A m.definition _ g g1 c in
      let called = rest_is_apart g.list g1.list left taken in
      item_keeps_apart A o (with_macro m line arguments g1) f i (opened_is_apart x m line arguments e g g1 t h left called)

  pub keeps_marks_apart : (A : Answers) → KeepsMarksApart I A
  keeps_marks_apart A = record {
    taking = λ o e f t. rest_is_apart e.list f.list (taking_leaves_rest o e f t);
    gathering = λ n last x e f g. rest_is_apart e.list f.list ((only_takes_entries A).gathering n last x e f g);
    call = λ d c e f k. rest_is_apart e.list f.list (call_leaves_rest A d c e f k);
    opening = opened_is_apart;
    item = item_keeps_apart A;
  }

pub starts_apart : StartsApart
starts_apart tokens numbering visible hidden = tt
