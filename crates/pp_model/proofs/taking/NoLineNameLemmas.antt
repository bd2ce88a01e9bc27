-- No `__LINE__` is taken, gathered or given if none is held.
use Rattle.std.proofs.Common.{◌≡◌, ◌∙◌, ℕ, Bool, true, false, List, [], refl, ap, sym, Option, Some, None}
use Rattle.std.specs.Prelude.{IfOk, Result, Ok, Err}
use Rattle.std.proofs.lemmas.List.Elements.{All-nil, All-cons}
use Rattle.pp_model.specs.declared.place.Place.{Place}
use Rattle.pp_model.specs.Places.{PlacedFault, place_of}
use Rattle.pp_model.specs.declared.read.Read.{Read}
use Rattle.pp_model.specs.Names.{Name, is_identifier, line_name}
use Rattle.pp_model.specs.Definitions.{Definition}
use Rattle.pp_model.specs.Painting.{taken_among}
use Rattle.pp_model.specs.Reading.{Reading, Expander, masked_names, argument_reading, reading_of}
use Rattle.pp_model.specs.Taking.{line_number, shown_token, shown_outcome, Takes, Fetches, held, listed, read}
use Rattle.pp_model.specs.Calls.{Gathered, before, Gathers, closed, inside, overfull, ended, failed, Answers, Called, no_call, refused, fits, Calls, alone, broken, whole}
use Rattle.pp_model.specs.Emitting.{with_macro, Emits, itself, object, name_alone, call_refused, call, Collects, done, failed as failing, item, answers_at}
use Rattle.pp_model.specs.inner.Emitting.{read_before}
use Rattle.pp_model.specs.NoLineName.{is_line_name, HoldsNoLineName, AreNoLineNames, ShowsNoLineName, AloneShowsNoLineName}
use Rattle.pp_model.specs.declared.read.Taken.{Taken}
use Rattle.pp_model.specs.declared.read.Taken.TheVariants as taken
use Rattle.pp_model.specs.declared.splice.Entry.{Entry}
use Rattle.pp_model.proofs.taking.FoundLemmas.{found_same}
use Rattle.pp_model.proofs.calls.SearchLeadsLemmas.{called_is_a_call}
use Rattle.pp_lexer.specs.declared.token.Integer.{Integer}

-- a number, or the fault of one that is out of range, is no name
number_is_no_line : (place : Place) (shown : Option Integer) → is_line_name (line_number place shown) ≡ false
number_is_no_line place (Some n) = refl
number_is_no_line place None = refl

taken_is_no_line : (shown_line : ℕ → Option Integer) (after : List Entry) (token : Read) → is_line_name (shown_token shown_line after token) ≡ false
taken_is_no_line shown_line after token = go (is_identifier line_name token.token.value) refl
  where
    go : (b : Bool) → is_identifier line_name token.token.value ≡ b → is_line_name (shown_token shown_line after token) ≡ false
    go true e = rw e (number_is_no_line (place_of token) _)
    go false e = rw e e

read_is_no_line : (shown_line : ℕ → Option Integer) (x : Taken) → is_line_name (shown_outcome shown_line x) ≡ false
read_is_no_line shown_line (taken.Token token) = taken_is_no_line shown_line [] token
read_is_no_line shown_line _ = refl

-- paint changes no name
painted_is_no_line : (names : List Name) (x : Taken) → is_line_name (taken_among names x) ≡ is_line_name x
painted_is_no_line names (taken.Token token) = refl
painted_is_no_line names _ = refl

-- one more token that is none
one_more : (token : Read) (rest : Result (List Read) PlacedFault) → is_identifier line_name token.token.value ≡ false → IfOk rest AreNoLineNames
    → IfOk (read_before token rest) AreNoLineNames
one_more token (Ok tokens) h all = All-cons (λ t. is_identifier line_name t.token.value ≡ false) token tokens h all
one_more token (Err fault) h all = tt

one_gathered_more : (token : Read) (rest : Result Gathered PlacedFault) → is_identifier line_name token.token.value ≡ false
    → IfOk rest (λ g. AreNoLineNames g.tokens) → IfOk (before token rest) (λ g. AreNoLineNames g.tokens)
one_gathered_more token (Ok gathered) h all = All-cons (λ t. is_identifier line_name t.token.value ≡ false) token gathered.tokens h all
one_gathered_more token (Err fault) h all = tt

module _ {R : Type 0} (I : Reading R) where
  fetching_shows_none : (o : Taken) (e f : Expander R) → Fetches I e o f → HoldsNoLineName e → (is_line_name o ≡ false) × HoldsNoLineName f
  fetching_shows_none o e f (held o1 e1 f1 h p) none = (rw h at none, rw p tt)
  fetching_shows_none o e f (listed o1 token rest e1 f1 h b is p) none = (rw is (taken_is_no_line (I.shown_line e.reader) rest token), rw (p, h) tt)
  fetching_shows_none o e f (read x o1 reader e1 f1 h b r is p) none = (rw is (read_is_no_line (I.shown_line reader) x), rw (p, h) tt)

  pub taking_shows_none : (o : Taken) (e f : Expander R) → Takes I e o f → HoldsNoLineName e → (is_line_name o ≡ false) × HoldsNoLineName f
  taking_shows_none o e f t none =
      let there = fetching_shows_none t.first e f t.fetches none in
      (ap is_line_name t.paints ∙ painted_is_no_line (masked_names f) t.first ∙ there.0, there.1)

  pub gathering_shows_none : (n : ℕ) (last : Place) (x : Result Gathered PlacedFault) (e f : Expander R) → Gathers I n last e x f → HoldsNoLineName e
      → IfOk x (λ g. AreNoLineNames g.tokens) × HoldsNoLineName f
  gathering_shows_none n last x e f (closed n1 l1 token e1 f1 x1 t h p) none =
      (rw p (All-nil (λ t. is_identifier line_name t.token.value ≡ false)), (taking_shows_none _ e f t none).1)
  gathering_shows_none n last x e f (inside n1 k l1 token e1 g f1 rest x1 t h u p) none =
      let taken = taking_shows_none (taken.Token token) e g t none in
      let more = gathering_shows_none k (place_of token) rest g f u taken.1 in
      (rw p (one_gathered_more token rest taken.0 more.0), more.1)
  gathering_shows_none n last x e f (overfull n1 l1 token e1 f1 x1 t h p) none = (rw p tt, (taking_shows_none _ e f t none).1)
  gathering_shows_none n last x e f (ended n1 l1 e1 f1 x1 t p) none = (rw p tt, (taking_shows_none _ e f t none).1)
  gathering_shows_none n last x e f (failed n1 l1 fault e1 f1 x1 t p) none = (rw p tt, (taking_shows_none _ e f t none).1)

  pub call_shows_none : (A : Answers) (d : Definition) (c : Called) (e f : Expander R) → Calls I A d e c f → HoldsNoLineName e
      → ((o : Taken) → c ≡ no_call o → is_line_name o ≡ false) × HoldsNoLineName f
  call_shows_none A d c e f (alone x e1 f1 c1 t h p) none =
      let taken = taking_shows_none x e f t none in
      (λ o q. let is : x ≡ o = cc in (rw is at taken.0), taken.1)
  call_shows_none A d c e f (broken x paren fault e1 g f1 c1 t h u p) none =
      let taken = taking_shows_none x e g t none in
      (λ o q. cc, (gathering_shows_none 0 paren (Err fault) g f u taken.1).1)
  call_shows_none A d c e f (whole x paren gathered answer e1 g f1 c1 t h u a p) none =
      let taken = taking_shows_none x e g t none in
      (λ o q. absurd (called_is_a_call gathered.closing.line answer o (sym p ∙ q)), (gathering_shows_none 0 paren (Ok gathered) g f u taken.1).1)

  pub item_shows_none : (A : Answers) (o : Taken) (e f : Expander R) → Emits I A e o f → HoldsNoLineName e → (is_line_name o ≡ false) × HoldsNoLineName f
  item_shows_none A o e f (itself x o1 e1 f1 t h p) none =
      let taken = taking_shows_none x e f t none in
      (ap is_line_name p ∙ found_same is_line_name (λ _ _. refl) f.list x ∙ taken.0, taken.1)
  item_shows_none A o e f (object x o1 m e1 g f1 t h k i) none =
      item_shows_none A o (with_macro m m.token.location.line [] g) f i (taking_shows_none x e g t none).1
  item_shows_none A o e f (name_alone x y o1 m e1 g g1 f1 t h k c p q) none =
      let taken = taking_shows_none x e g t none in
      let called = call_shows_none A m.definition (no_call y) g g1 c taken.1 in
      (rw p taken.0, rw q (called.0 y refl))
  item_shows_none A o e f (call_refused x o1 fault m e1 g f1 t h k c p) none =
      let taken = taking_shows_none x e g t none in
      (rw p refl, (call_shows_none A m.definition (refused fault) g f c taken.1).1)
  item_shows_none A o e f (call x o1 arguments line m e1 g g1 f1 t h k c i) none =
      let taken = taking_shows_none x e g t none in
      let called = call_shows_none A m.definition (fits arguments line) g g1 c taken.1 in
      item_shows_none A o (with_macro m line arguments g1) f i called.1

  pub list_shows_none : (A : Answers) (x : Result (List Read) PlacedFault) (e : Expander R) → Collects I A e x → HoldsNoLineName e → IfOk x AreNoLineNames
  list_shows_none A x e (done e1 f x1 i p) none = rw p (All-nil (λ t. is_identifier line_name t.token.value ≡ false))
  list_shows_none A x e (failing fault e1 f x1 i p) none = rw p tt
  list_shows_none A x e (item token rest x1 e1 f i c p) none =
      let given = item_shows_none A (taken.Token token) e f i none in
      rw p (one_more token rest given.0 (list_shows_none A rest f c given.1))

  pub shows_no_line_name : (A : Answers) → ShowsNoLineName I A
  shows_no_line_name A = record {
    taking = taking_shows_none;
    gathering = gathering_shows_none;
    call = call_shows_none A;
    item = item_shows_none A;
    list = list_shows_none A;
  }

pub alone_shows_no_line_name : AloneShowsNoLineName
alone_shows_no_line_name level tokens numbering visible hidden x c = list_shows_none argument_reading (answers_at level) x (reading_of tokens numbering visible hidden) c tt
