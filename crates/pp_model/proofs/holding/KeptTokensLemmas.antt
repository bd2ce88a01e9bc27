-- What holds of each token that is read, and of each line's number, holds of each token that is given.
use Rattle.std.proofs.Common.{◌≡◌, ℕ, zero, suc, List, [], ◌∷◌, sym, subst, Option, Some, None}
use Rattle.std.specs.Prelude.{⊤, IfOk, MatchOption, Result, Ok, Err, Bool, true, false, if◌then◌else◌, ◌||◌}
use Rattle.std.specs.List.{AllByRecursion as Each}
use Rattle.pp_lexer.specs.declared.token.PreprocessorError.{PreprocessorError}
use Rattle.pp_lexer.specs.declared.token.PreprocessorError.TheVariants.{RecursionLimitReached}
use Rattle.pp_lexer.specs.declared.token.Token.{Token}
use Rattle.pp_lexer.specs.declared.token.TokenValue.{TokenValue}
use Rattle.pp_lexer.specs.declared.token.TokenValue.TheVariants.{Ident}
use Rattle.pp_model.specs.declared.place.Place.{Place}
use Rattle.pp_model.specs.Places.{PlacedFault, place_of}
use Rattle.pp_model.specs.Names.{Name}
use Rattle.pp_model.specs.Definitions.{Definition, Definitions}
use Rattle.pp_model.specs.Reading.{Reading, Expander, Opening, opening_of, opening, masked_names, Listed, argument_reading, reading_of}
use Rattle.pp_model.specs.inner.Reading.{first_listed, opening_by, after_listed}
use Rattle.pp_model.specs.Taking.{Takes, Fetches, held, listed, read}
use Rattle.pp_model.specs.Calls.{Gathered, before, Gathers, closed, inside, overfull, ended, failed, Answers, Site, misfit, Called, no_call, refused, fits, called_by, Calls, alone, broken, whole}
use Rattle.pp_model.specs.Emitting.{found_among, with_macro, Emits, itself, object, name_alone, call_refused, call, Collects, done, failed as failing, item, Alones, Each as Expanded, none, first_failed, more, answers_by, ExpandsArguments, answers_at, Alone, called_at}
use Rattle.pp_model.specs.declared.read.Read.{Read}
use Rattle.pp_model.specs.declared.read.Taken.{Taken}
use Rattle.pp_model.specs.declared.read.Taken.TheVariants as taken
use Rattle.pp_model.specs.declared.splice.Entry.{Entry}
use Rattle.pp_model.specs.declared.splice.Entry.TheVariants.{Plain}
use Rattle.pp_lexer.specs.declared.token.Integer.{Integer}
use Rattle.pp_model.specs.Numbering.{number_of}
use Rattle.pp_model.proofs.taking.NumberingLemmas.{IsLineLiteral, number_is_short}
use Rattle.pp_model.proofs.holding.HoldingLemmas.{more_holds, HoldInLists, AreClosed, HoldInBodies, HoldsOfRead, HoldsOfTaken, HoldsOfHeld, HoldInList, after_marks_hold, spliced_holds, arguments_hold, taken_holds, read_holds, painted_holds}
use Rattle.pp_model.specs.declared.numbering.Numbering.{Numbering}

module _ (Q : Token → Type 0) (L : ℕ → Type 0) where
  -- a reader keeps it where this holds of the reader
  pub record ReaderKeeps {R : Type 0} (I : Reading R) (K : R → Type 0) : Type 0 where
    pub reads : (old new : R) (x : Taken) → I.Reads old x new → K old → HoldsOfTaken Q x × K new
    pub visible : (r : R) → K r → HoldInBodies Q (I.visible r)
    pub shown : (r : R) (line : ℕ) (number : Integer) → I.shown_line r line ≡ Some number → IsLineLiteral number

  -- so does what calls come to
  abbrev pub AnswersKeep : Answers → Type 0
  AnswersKeep A = (definition : Definition) (site : Site) (answer : Result (List (List Read)) PlacedFault) → A definition site answer
      → HoldInBodies Q site.visible → HoldInLists Q site.arguments → IfOk answer (HoldInLists Q)

  -- it holds of what an expander holds, lists and reads
  pub record HoldsOf {R : Type 0} (K : R → Type 0) (e : Expander R) : Type 0 where
    pub held : HoldsOfHeld Q e.held
    pub list : HoldInList Q L e.list
    pub reader : K e.reader

  abbrev pub HoldsOfGathered : Gathered → Type 0
  HoldsOfGathered g = Each (HoldsOfRead Q) g.tokens × L g.closing.line

  abbrev pub HoldsOfCalled : Called → Type 0
  HoldsOfCalled (no_call o) = HoldsOfTaken Q o
  HoldsOfCalled (refused fault) = ⊤
  HoldsOfCalled (fits arguments line) = HoldInLists Q arguments × L line

module _ (Q : Token → Type 0) (L : ℕ → Type 0) (closed_under : AreClosed Q L) where
  gathered_more : (token : Read) (rest : Result Gathered PlacedFault) → Q token.token → IfOk rest (HoldsOfGathered Q L)
      → IfOk (before token rest) (HoldsOfGathered Q L)
  gathered_more token (Ok rest) q h = ((q, h.0), h.1)
  gathered_more token (Err fault) q h = tt

  called_holds : (line : ℕ) (answer : Result (List (List Read)) PlacedFault) → L line → IfOk answer (HoldInLists Q)
      → HoldsOfCalled Q L (called_by line answer)
  called_holds line (Ok lists) l h = (h, l)
  called_holds line (Err fault) l h = tt

  -- a token opens what is defined, and stands where the macro is opened
  opened_by : (token : Read) (name : Name) (found : Option Definition) (m : Opening) → opening_by token name found ≡ Some m → (m.token ≡ token.token)
      × (found ≡ Some m.definition)
  opened_by token name (Some definition) m e = (cc, cc)
  opened_by token name None m e = cc

  module _ {R : Type 0} (I : Reading R) (K : R → Type 0) (keeps : ReaderKeeps Q L I K) where
    opened_when : (b : Bool) (e : Expander R) (token : Read) (name : Name) (m : Opening)
        → (if b then None else opening_by token name (I.visible e.reader name)) ≡ Some m → K e.reader → Q token.token → Each Q m.definition.body
        × L m.token.location.line
    opened_when true e token name m is k q = cc
    opened_when false e token name m is k q =
        let by = opened_by token name (I.visible e.reader name) m is in
        (keeps.visible e.reader k name m.definition by.1, subst (λ (t : Token). L t.location.line) (sym by.0) (closed_under.line token.token q))

    opened_value : (e : Expander R) (token : Read) (value : TokenValue) (m : Opening) → opening_of I e token value ≡ Some m → K e.reader → Q token.token
        → Each Q m.definition.body × L m.token.location.line
    opened_value e token (Ident name) m is k q = opened_when (I.is_reserved name || token.painted) e token name m is k q
    opened_value e token _ m is k q = cc

    opened_holds : (e : Expander R) (x : Taken) (m : Opening) → opening I e x ≡ Some m → HoldsOf Q L K e → HoldsOfTaken Q x
        → Each Q m.definition.body × L m.token.location.line
    opened_holds e (taken.Token token) m is h q = opened_value e token token.token.value m is h.reader q
    opened_holds e _ m is h q = cc

    fetching_keeps : (o : Taken) (e f : Expander R) → Fetches I e o f → HoldsOf Q L K e → HoldsOfTaken Q o × HoldsOf Q L K f
    fetching_keeps o e f (held o1 e1 f1 is p) h = (
      rw is at h.held,
      rw p (record { held = tt; list = h.list; reader = h.reader }),
    )
    fetching_keeps o e f (listed o1 token rest e1 f1 is b q p) h =
        let all : HoldInList Q L (Plain token ∷ rest) = subst (HoldInList Q L) b (after_marks_hold Q L e.list h.list) in (
          rw q (taken_holds Q L closed_under (I.shown_line e.reader) (keeps.shown e.reader) rest token all.1 all.0),
          rw p (record { held = h.held; list = all.1; reader = h.reader }),
        )
    fetching_keeps o e f (read x o1 reader e1 f1 is b r q p) h =
        let more = keeps.reads e.reader reader x r h.reader in (
          rw q (read_holds Q L closed_under (I.shown_line reader) (keeps.shown reader) x more.0),
          rw p (record { held = h.held; list = tt; reader = more.1 }),
        )

    pub taking_keeps : (o : Taken) (e f : Expander R) → Takes I e o f → HoldsOf Q L K e → HoldsOfTaken Q o × HoldsOf Q L K f
    taking_keeps o e f t h =
        let there = fetching_keeps t.first e f t.fetches h in
        (rw t.paints (painted_holds Q L (masked_names f) t.first there.0), there.1)

    pub gathering_keeps : (n : ℕ) (last : Place) (x : Result Gathered PlacedFault) (e f : Expander R) → Gathers I n last e x f → HoldsOf Q L K e
        → IfOk x (HoldsOfGathered Q L) × HoldsOf Q L K f
    gathering_keeps n last x e f (closed n1 l1 token e1 f1 x1 t is p) h =
        let taken = taking_keeps _ e f t h in
        (rw p (tt, closed_under.line token.token taken.0), taken.1)
    gathering_keeps n last x e f (inside n1 k l1 token e1 g f1 rest x1 t is u p) h =
        let taken = taking_keeps (taken.Token token) e g t h in
        let later = gathering_keeps k (place_of token) rest g f u taken.1 in
        (rw p (gathered_more token rest taken.0 later.0), later.1)
    gathering_keeps n last x e f (overfull n1 l1 token e1 f1 x1 t is p) h = (rw p tt, (taking_keeps _ e f t h).1)
    gathering_keeps n last x e f (ended n1 l1 e1 f1 x1 t p) h = (rw p tt, (taking_keeps _ e f t h).1)
    gathering_keeps n last x e f (failed n1 l1 fault e1 f1 x1 t p) h = (rw p tt, (taking_keeps _ e f t h).1)

    module _ (A : Answers) (answers : AnswersKeep Q L A) where
      pub call_keeps : (m : Definition) (c : Called) (e f : Expander R) → Calls I A m e c f → HoldsOf Q L K e → HoldsOfCalled Q L c × HoldsOf Q L K f
      call_keeps m c e f (alone x e1 f1 c1 t is p) h =
          let taken = taking_keeps x e f t h in
          (rw p taken.0, taken.1)
      call_keeps m c e f (broken x paren fault e1 g f1 c1 t is u p) h =
          (rw p tt, (gathering_keeps 0 paren (Err fault) g f u (taking_keeps x e g t h).1).1)
      call_keeps m c e f (whole x paren gathered answer e1 g f1 c1 t is u a p) h =
          let later = gathering_keeps 0 paren (Ok gathered) g f u (taking_keeps x e g t h).1 in
          let lists = answers m _ answer a (keeps.visible f.reader later.1.reader) (arguments_hold Q L gathered.tokens later.0.0) in
          (rw p (called_holds gathered.closing.line answer later.0.1 lists), later.1)

      opening_keeps : (m : Opening) (line : ℕ) (arguments : List (List Read)) (e : Expander R) → Each Q m.definition.body → L line
          → HoldInLists Q arguments → HoldsOf Q L K e → HoldsOf Q L K (with_macro m line arguments e)
      opening_keeps m line arguments e body l all h = record {
        held = h.held;
        list = spliced_holds Q L m.name m.definition (called_at m.text m.token line) arguments e.list body l all h.list;
        reader = h.reader;
      }

      found_holds : (entries : List Entry) (o : Taken) → HoldsOfTaken Q o → HoldsOfTaken Q (found_among entries o)
      found_holds entries (taken.Token token) h = h
      found_holds entries (taken.Fault fault) h = h
      found_holds entries taken.End h = h

      -- what is given has it, where what is held, listed and read has it
      pub item_keeps : (o : Taken) (e f : Expander R) → Emits I A e o f → HoldsOf Q L K e → HoldsOfTaken Q o × HoldsOf Q L K f
      item_keeps o e f (itself x o1 e1 f1 t is p) h =
          let taken = taking_keeps x e f t h in
          (rw p (found_holds f.list x taken.0), taken.1)
      item_keeps o e f (object x o1 m e1 g f1 t is k i) h =
          let taken = taking_keeps x e g t h in
          let by = opened_holds g x m is taken.1 taken.0 in
          item_keeps o (with_macro m m.token.location.line [] g) f i (opening_keeps m m.token.location.line [] g by.0 by.1 tt taken.1)
      item_keeps o e f (name_alone x y o1 m e1 g g1 f1 t is k c p q) h =
          let taken = taking_keeps x e g t h in
          let called = call_keeps m.definition (no_call y) g g1 c taken.1 in (
            rw p taken.0,
            rw q (record { held = called.0; list = called.1.list; reader = called.1.reader }),
          )
      item_keeps o e f (call_refused x o1 fault m e1 g f1 t is k c p) h =
          (rw p tt, (call_keeps m.definition (refused fault) g f c (taking_keeps x e g t h).1).1)
      item_keeps o e f (call x o1 arguments line m e1 g g1 f1 t is k c i) h =
          let taken = taking_keeps x e g t h in
          let by = opened_holds g x m is taken.1 taken.0 in
          let called = call_keeps m.definition (fits arguments line) g g1 c taken.1 in
          item_keeps o (with_macro m line arguments g1) f i (opening_keeps m line arguments g1 by.0 called.0.1 called.0.0 called.1)

      pub list_keeps : (x : Result (List Read) PlacedFault) (e : Expander R) → Collects I A e x → HoldsOf Q L K e → IfOk x (Each (HoldsOfRead Q))
      list_keeps x e (done e1 f x1 i p) h = rw p tt
      list_keeps x e (failing fault e1 f x1 i p) h = rw p tt
      list_keeps x e (item token rest x1 e1 f i c p) h =
          let given = item_keeps (taken.Token token) e f i h in
          rw p (more_holds (HoldsOfRead Q) token rest given.0 (list_keeps rest f c given.1))

  -- a list of tokens has it where its tokens have it, and the definitions that are seen
  abbrev HoldsOfListed : Listed → Type 0
  HoldsOfListed r = Each (HoldsOfRead Q) r.tokens × HoldInBodies Q r.visible

  first_holds : (tokens : List Read) → Each (HoldsOfRead Q) tokens → HoldsOfTaken Q (first_listed tokens)
  first_holds [] all = tt
  first_holds (token ∷ tokens) all = all.0

  after_holds : (tokens : List Read) → Each (HoldsOfRead Q) tokens → Each (HoldsOfRead Q) (after_listed tokens)
  after_holds [] all = tt
  after_holds (token ∷ tokens) all = all.1

  shown_short : (numbering : Numbering) (line : ℕ) (number : Integer) → Some (number_of numbering line) ≡ Some number → IsLineLiteral number
  shown_short numbering line number e = let same : number_of numbering line ≡ number = cc in rw (← same) (number_is_short numbering line)

  listed_keeps : ReaderKeeps Q L argument_reading HoldsOfListed
  listed_keeps = record {
    reads = λ old new x is h. (
      rw is.0 (first_holds old.tokens h.0),
      rw is.1 (after_holds old.tokens h.0, h.1),
    );
    visible = λ r h. h.1;
    shown = λ r line number e. shown_short r.numbering line number e;
  }

  -- what lists of tokens come to alone
  abbrev AloneKeeps : Alones → Type 0
  AloneKeeps deeper = (tokens : List Read) (numbering : Numbering) (visible : Definitions) (hidden : List Name) (out : Result (List Read) PlacedFault)
      → deeper tokens numbering visible hidden out → Each (HoldsOfRead Q) tokens → HoldInBodies Q visible → IfOk out (Each (HoldsOfRead Q))

  each_keeps : (deeper : Alones) → AloneKeeps deeper → (numbering : Numbering) (visible : Definitions) (hidden : List Name) (arguments : List (List Read))
      (out : Result (List (List Read)) PlacedFault) → Expanded deeper numbering visible hidden arguments out
      → HoldInBodies Q visible → HoldInLists Q arguments → IfOk out (HoldInLists Q)
  each_keeps deeper keeps numbering visible hidden arguments out (none out1 p) v all = rw p tt
  each_keeps deeper keeps numbering visible hidden arguments out (first_failed t ts c out1 a p) v all = rw p tt
  each_keeps deeper keeps numbering visible hidden arguments out (more t c ts r out1 a later p) v all =
      rw p
      (more_holds (Each (HoldsOfRead Q)) c r (keeps t numbering visible hidden (Ok c) a all.0 v) (each_keeps deeper keeps numbering visible hidden ts r later v all.1))

  abbrev ExpansionKeeps : (Site → Result (List (List Read)) PlacedFault → Type 0) → Type 0
  ExpansionKeeps Fitting = (site : Site) (out : Result (List (List Read)) PlacedFault) → Fitting site out
      → HoldInBodies Q site.visible → HoldInLists Q site.arguments → IfOk out (HoldInLists Q)

  refused_keeps : (fault : PlacedFault) (out : Result (List (List Read)) PlacedFault) → out ≡ Err fault → IfOk out (HoldInLists Q)
  refused_keeps fault out is = rw is tt

  answers_by_keep : (Fitting : Site → Result (List (List Read)) PlacedFault → Type 0) → ExpansionKeeps Fitting → AnswersKeep Q L (answers_by Fitting)
  answers_by_keep Fitting keeps definition site out is v all = decided (misfit definition.parameters site.arguments) is
    where
      decided : (error : Option PreprocessorError) → MatchOption error (Fitting site out) (λ error. out ≡ Err (error, site.paren))
          → IfOk out (HoldInLists Q)
      decided None is = keeps site out is v all
      decided (Some error) is = refused_keeps (error, site.paren) out is

  collected_keeps : (A : Answers) → AnswersKeep Q L A → (tokens : List Read) (numbering : Numbering) (visible : Definitions) (hidden : List Name)
      (out : Result (List Read) PlacedFault) → Collects argument_reading A (reading_of tokens numbering visible hidden) out
      → Each (HoldsOfRead Q) tokens → HoldInBodies Q visible
      → IfOk out (Each (HoldsOfRead Q))
  collected_keeps A answers tokens numbering visible hidden out c all v =
      list_keeps argument_reading HoldsOfListed listed_keeps A answers out (reading_of tokens numbering visible hidden) c
      (record { held = tt; list = tt; reader = (all, v) })

  expansion_keeps : (level : ℕ) → ExpansionKeeps (ExpandsArguments level)
  expansion_keeps zero site out is v all = refused_keeps (RecursionLimitReached, site.paren) out is
  expansion_keeps (suc level) site out is v all =
      each_keeps (Alone level) (collected_keeps (answers_at level) (answers_by_keep (ExpandsArguments level) (expansion_keeps level)))
      site.numbering site.visible site.open_around site.arguments out is v all

  -- what calls come to has it, at every level
  pub answers_keep : (level : ℕ) → AnswersKeep Q L (answers_at level)
  answers_keep level = answers_by_keep (ExpandsArguments level) (expansion_keeps level)
