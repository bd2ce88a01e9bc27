-- No macro is open twice, here or around: what leaves the list closes names, and what opens is open neither here nor around.
use Rattle.std.proofs.Common.{true, ◌≡◌, ◌∙◌, ℕ, false, List, [], ◌∷◌, ◌++◌, refl, sym, ap, subst, Some}
use Rattle.pp_model.specs.Names.{Name, is_in}
use Rattle.pp_model.specs.Definitions.{Definition}
use Rattle.pp_model.specs.SpliceList.{open_names}
use Rattle.pp_model.specs.Reading.{Reading, Expander, Listed, Opening, masked_names}
use Rattle.pp_model.specs.Taking.{Takes, Fetches, held, listed, read}
use Rattle.pp_model.specs.Calls.{Answers, Called, Calls}
use Rattle.pp_model.specs.Emitting.{with_macro, Emits, called_at}
use Rattle.pp_model.specs.Emitting as emits
use Rattle.pp_model.specs.SourceReader.{SourceReader}
use Rattle.pp_model.specs.Reads.{source_reading}
use Rattle.pp_model.specs.Run.{start_by}
use Rattle.pp_model.specs.ApartMarks.{AreApart, IsRest}
use Rattle.pp_model.specs.RunStates.{LeadsTo}
use Rattle.pp_model.specs.OpenOnce.{Passes, here, taking, object, name_alone, call, IsOpenOnce, RunOpensOnce, ListOpensOnce}
use Rattle.pp_model.specs.declared.read.Read.{Read}
use Rattle.pp_model.specs.declared.read.Taken.{Taken}
use Rattle.pp_model.proofs.runs.RunLemmas.{each_state}
use Rattle.pp_model.proofs.calls.SearchLeadsLemmas.{call_leads}
use Rattle.pp_model.proofs.taking.ApartMarksLemmas.{taking_leaves_rest}
use Rattle.pp_model.proofs.taking.OpenNamesLemmas.{rest_of_rest, not_in_later, apart_later, open_around, open_spliced, opening_not_masked}

-- what an expander is after another: its list is what is left, and the same names are open around
record IsLeft {R : Type 0} (e f : Expander R) : Type 0 where
  rest : IsRest e.list f.list
  around : f.hidden ≡ e.hidden

masked_left : {R : Type 0} (e f : Expander R) (left : IsLeft e f) → masked_names e ≡ open_names left.rest.0 ++ masked_names f
masked_left e f left = open_around e.list f.list left.rest e.hidden
    ∙ ap (λ (hs : List Name). open_names left.rest.0 ++ (open_names f.list ++ hs)) (sym left.around)

once_left : {R : Type 0} (e f : Expander R) → IsLeft e f → IsOpenOnce e → IsOpenOnce f
once_left e f left once = apart_later (open_names left.rest.0) (masked_names f) (subst AreApart (masked_left e f left) once)

not_masked_left : {R : Type 0} (name : Name) (e f : Expander R) → IsLeft e f → is_in name (masked_names e) ≡ false → is_in name (masked_names f) ≡ false
not_masked_left name e f left h =
    not_in_later name (open_names left.rest.0) (masked_names f) (subst (λ (names : List Name). is_in name names ≡ false) (masked_left e f left) h)

-- a macro that is open neither here nor around opens once
opened_once : {R : Type 0} (m : Opening) (line : ℕ) (arguments : List (List Read)) (f : Expander R) → is_in m.name (masked_names f) ≡ false → IsOpenOnce f
    → IsOpenOnce (with_macro m line arguments f)
opened_once m line arguments f apart once =
    let both : AreApart (m.name ∷ (open_names f.list ++ f.hidden)) = (apart, once) in
    subst (λ (names : List Name). AreApart (names ++ f.hidden)) (sym (open_spliced m.name m.definition (called_at m.text m.token line) arguments f.list)) both

module _ {R : Type 0} (I : Reading R) where
  fetching_around : (o : Taken) (e f : Expander R) → Fetches I e o f → f.hidden ≡ e.hidden
  fetching_around o e f (held o1 e1 f1 h p) = ap (λ x. x.hidden) p
  fetching_around o e f (listed o1 token rest e1 f1 h b is p) = ap (λ x. x.hidden) p
  fetching_around o e f (read x o1 reader e1 f1 h b r is p) = ap (λ x. x.hidden) p

  taking_left : (o : Taken) (e f : Expander R) → Takes I e o f → IsLeft e f
  taking_left o e f t = record { rest = taking_leaves_rest I o e f t; around = fetching_around t.first e f t.fetches }

  left_then : (e f g : Expander R) → IsLeft e f → IsLeft f g → IsLeft e g
  left_then e f g a b = record { rest = rest_of_rest e.list f.list g.list a.rest b.rest; around = b.around ∙ a.around }

  call_left : (A : Answers) (d : Definition) (c : Called) (e f : Expander R) → Calls I A d e c f → IsLeft e f
  call_left = call_leads I IsLeft left_then taking_left

  -- each state that is passed
  passes_once : (A : Answers) (e f : Expander R) → Passes I A e f → IsOpenOnce e → IsOpenOnce f
  passes_once A e f (here e1 f1 p) once = subst IsOpenOnce (sym p) once
  passes_once A e f (taking o e1 g f1 t more) once = passes_once A g f more (once_left e g (taking_left o e g t) once)
  passes_once A e f (object x m e1 g f1 t h k more) once =
      let taken = once_left e g (taking_left x e g t) once in
      passes_once A (with_macro m m.token.location.line [] g) f more (opened_once m m.token.location.line [] g (opening_not_masked I x m e g t h) taken)
  passes_once A e f (name_alone x y m e1 g g1 f1 t h k c more) once =
      let taken = once_left e g (taking_left x e g t) once in
      passes_once A (record g1 { held = Some y }) f more (once_left g g1 (call_left A m.definition _ g g1 c) taken)
  passes_once A e f (call x arguments line m e1 g g1 f1 t h k c more) once =
      let taken = once_left e g (taking_left x e g t) once in
      let left = call_left A m.definition _ g g1 c in
      let apart = not_masked_left m.name g g1 left (opening_not_masked I x m e g t h) in
      passes_once A (with_macro m line arguments g1) f more (opened_once m line arguments g1 apart (once_left g g1 left taken))

  -- the state after an item is passed
  abbrev PassedFrom : (A : Answers) → Expander R → Expander R → Type 0
  PassedFrom A e f = (g : Expander R) → Passes I A f g → Passes I A e g

  call_passes : (A : Answers) (d : Definition) (c : Called) (e f : Expander R) → Calls I A d e c f → PassedFrom A e f
  call_passes A = call_leads I (PassedFrom A) (λ e f g first later h more. first h (later h more)) (λ o e f t g more. taking o e f g t more) A

  item_passes : (A : Answers) (o : Taken) (e f : Expander R) → Emits I A e o f → Passes I A e f
  item_passes A o e f (emits.itself x o1 e1 f1 t h p) = taking x e f f t (here f f refl)
  item_passes A o e f (emits.object x o1 m e1 g f1 t h k i) = object x m e g f t h k (item_passes A o (with_macro m m.token.location.line [] g) f i)
  item_passes A o e f (emits.name_alone x y o1 m e1 g g1 f1 t h k c p q) =
      name_alone x y m e g g1 f t h k c (here (record g1 { held = Some y }) f q)
  item_passes A o e f (emits.call_refused x o1 fault m e1 g f1 t h k c p) =
      taking x e g f t (call_passes A m.definition _ g f c f (here f f refl))
  item_passes A o e f (emits.call x o1 arguments line m e1 g g1 f1 t h k c i) =
      call x arguments line m e g g1 f t h k c (item_passes A o (with_macro m line arguments g1) f i)

module _ (A : Answers) where
  leading_once : (e f : Expander SourceReader) → LeadsTo A true e f → IsOpenOnce e → IsOpenOnce f
  leading_once = each_state A IsOpenOnce (λ name tokens e once. once)
      (λ o e f item. passes_once (source_reading A) A e f (item_passes (source_reading A) A o e f item))
      true (λ may text by e once. once)

  pub run_opens_once : RunOpensOnce A
  run_opens_once rules source e f reached passes = passes_once (source_reading A) A e f passes (leading_once (start_by rules source) e reached tt)

pub reading_opens_once : (I : Reading Listed) (A : Answers) → ListOpensOnce I A
reading_opens_once I A tokens numbering visible hidden f apart passes = passes_once I A _ f passes apart
