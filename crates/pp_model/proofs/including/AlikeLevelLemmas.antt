-- Alike arguments have alike expansions at every level, and so alike calls have alike answers.
use Rattle.std.proofs.Common.{◌≡◌, ℕ, zero, suc, Bool, false, List, [], ◌∷◌, refl, Option, Some, None}
use Rattle.std.specs.Prelude.{MatchOption, Result, Ok, Err}
use Rattle.pp_lexer.specs.declared.token.PreprocessorError.{PreprocessorError}
use Rattle.pp_lexer.specs.declared.token.PreprocessorError.TheVariants.{RecursionLimitReached}
use Rattle.pp_model.specs.Calls.{Answers, Site, misfit}
use Rattle.pp_model.specs.Definitions.{Definitions}
use Rattle.pp_model.specs.Emitting.{Emits, first_before, Collects, done, failed, item, Alones, Each, none, first_failed, more, answers_by, alone_by, ExpandsArguments, answers_at, Alone}
use Rattle.pp_model.specs.Names.{Name}
use Rattle.pp_model.specs.Places.{PlacedFault}
use Rattle.pp_model.specs.Reading.{Reading, Expander, Listed, listed_reading, argument_reading, reading_of}
use Rattle.pp_model.specs.declared.numbering.Numbering.{Numbering}
use Rattle.pp_model.specs.declared.read.Read.{Read}
use Rattle.pp_model.specs.declared.read.Taken.{Taken}
use Rattle.pp_model.specs.declared.read.Taken.TheVariants as taken
use Rattle.pp_model.specs.inner.Alike.{Pairs, AlikeRead, AlikeTaken, AlikeDefinitions, AlikeResult, AlikeSite, AlikeExpander, Follows}
use Rattle.pp_model.specs.inner.Reading.{ReadsListed, after_listed, first_listed}
use Rattle.pp_model.proofs.including.AlikeListLemmas.{of_token, of_fault, of_end, pairs_drop, first_listed_alike, misfit_alike}
use Rattle.pp_model.proofs.including.AlikeTakingLemmas.{of_ok, of_err, AnswersAlike, emits_alike}

-- one more before alike lists
pub first_before_alike : {X : Type 0} (R : X → X → Type 0) (x y : X) (g h : Result (List X) PlacedFault) → R x y → AlikeResult (Pairs R) g h
    → AlikeResult (Pairs R) (first_before x g) (first_before y h)
first_before_alike R x y (Ok g) (Ok h) a b = (a, b)
first_before_alike R x y (Err g) (Err h) a b = b
first_before_alike R x y _ _ a b = absurd b

-- ---- lists of tokens as readers

pub record AlikeListed (x y : Listed) : Type 0 where
  pub tokens : Pairs AlikeRead x.tokens y.tokens
  pub numbering : x.numbering ≡ y.numbering
  pub visible : AlikeDefinitions x.visible y.visible

module _ (is_reserved : Name → Bool) where
  listed_reads_alike : (r t : Listed) (s : Listed) (x : Taken) → AlikeListed r s → ReadsListed r x t
      → (y : Taken) × (u : Listed) × ReadsListed s y u × AlikeTaken x y × AlikeListed t u
  listed_reads_alike r t s x a m =
      let given = first_listed s.tokens in
      let after : Listed = record s { tokens = after_listed s.tokens } in
      let same : AlikeListed (record r { tokens = after_listed r.tokens }) after =
      record { tokens = pairs_drop AlikeRead r.tokens s.tokens 1 a.tokens; numbering = a.numbering; visible = a.visible } in
      (given, after, (refl, refl), rw m.0 (first_listed_alike r.tokens s.tokens a.tokens), rw m.1 same)

  -- a list of alike tokens gives what is alike
  pub listed_follows : Follows AlikeListed (listed_reading is_reserved) (listed_reading is_reserved)
  listed_follows = record {
    reads = listed_reads_alike;
    visible = λ r s a. a.visible;
    shown_line = λ r s a line. rw a.numbering refl;
    numbering = λ r s a. a.numbering;
    is_reserved = λ name. refl;
  }

pub alike_start : (tokens others : List Read) (numbering here : Numbering) (visible seen : Definitions) (hidden : List Name)
    → Pairs AlikeRead tokens others → numbering ≡ here → AlikeDefinitions visible seen
    → AlikeExpander AlikeListed (reading_of tokens numbering visible hidden) (reading_of others here seen hidden)
alike_start tokens others numbering here visible seen hidden p n v =
    record { held = tt; list = tt; reader = record { tokens = p; numbering = n; visible = v }; hidden = refl }

-- ---- arguments

-- what alike arguments expand to alone is alike
abbrev AlonesAlike : Alones → Type 0
AlonesAlike deeper =
    (tokens others : List Read) (numbering : Numbering) (visible seen : Definitions) (hidden : List Name) (out : Result (List Read) PlacedFault)
    → Pairs AlikeRead tokens others → AlikeDefinitions visible seen → deeper tokens numbering visible hidden out
    → (given : Result (List Read) PlacedFault) × deeper others numbering seen hidden given × AlikeResult (Pairs AlikeRead) out given

module _ (A : Answers) (answers : AnswersAlike A) where
  abbrev LikeListed : Expander Listed → Expander Listed → Type 0
  LikeListed e f = AlikeExpander AlikeListed e f

  collects_alike : (e u : Expander Listed) (out : Result (List Read) PlacedFault) → LikeListed e u → Collects argument_reading A e out
      → (given : Result (List Read) PlacedFault) × Collects argument_reading A u given × AlikeResult (Pairs AlikeRead) out given
  collects_alike e u out a (done e1 f out1 i s) =
      let there = emits_alike AlikeListed argument_reading argument_reading (listed_follows (λ name. false)) A answers e f taken.End u a i in
      let k = of_end (λ y. Emits argument_reading A u y there.1) there.0 there.3 there.2 in
      (Ok [], done u there.1 (Ok []) k refl, rw s tt)
  collects_alike e u out a (failed fault e1 f out1 i s) =
      let there = emits_alike AlikeListed argument_reading argument_reading (listed_follows (λ name. false)) A answers e f (taken.Fault fault) u a i in
      let k = of_fault (λ y. Emits argument_reading A u y there.1) fault there.0 there.3 there.2 in
      (Err k.0, failed k.0 u there.1 (Err k.0) k.1 refl, rw s k.2)
  collects_alike e u out a (item read rest out1 e1 f i c s) =
      let there = emits_alike AlikeListed argument_reading argument_reading (listed_follows (λ name. false)) A answers e f (taken.Token read) u a i in
      let k = of_token (λ y. Emits argument_reading A u y there.1) read there.0 there.3 there.2 in
      let later = collects_alike f there.1 rest there.4 c in
      let given = first_before k.0 later.0 in
      (given, item k.0 later.0 given u there.1 k.1 later.1 refl, rw s (first_before_alike AlikeRead read k.0 rest later.0 k.2 later.2))

  alone_alike : AlonesAlike (alone_by A)
  alone_alike tokens others numbering visible seen hidden out p v c =
      collects_alike (reading_of tokens numbering visible hidden) (reading_of others numbering seen hidden) out
      (alike_start tokens others numbering numbering visible seen hidden p refl v) c

each_alike : (deeper : Alones) → AlonesAlike deeper → (numbering : Numbering) (visible seen : Definitions) (hidden : List Name)
    (arguments others : List (List Read)) (out : Result (List (List Read)) PlacedFault) → AlikeDefinitions visible seen
    → Pairs (Pairs AlikeRead) arguments others → Each deeper numbering visible hidden arguments out
    → (given : Result (List (List Read)) PlacedFault) × Each deeper numbering seen hidden others given × AlikeResult (Pairs (Pairs AlikeRead)) out given
each_alike deeper alone numbering visible seen hidden arguments [] out v p (none out1 s) = (Ok [], none (Ok []) refl, rw s tt)
each_alike deeper alone numbering visible seen hidden arguments (b ∷ bs) out v p (first_failed a cs fault out1 c s) =
    let there = alone a b numbering visible seen hidden (Err fault) p.0 v c in
    let k = of_err (Pairs AlikeRead) (λ r. deeper b numbering seen hidden r) fault there.0 there.2 there.1 in
    (Err k.0, first_failed b bs k.0 (Err k.0) k.1 refl, rw s k.2)
each_alike deeper alone numbering visible seen hidden arguments (b ∷ bs) out v p (more a x cs rest out1 c later s) =
    let there = alone a b numbering visible seen hidden (Ok x) p.0 v c in
    let k = of_ok (Pairs AlikeRead) (λ r. deeper b numbering seen hidden r) x there.0 there.2 there.1 in
    let others = each_alike deeper alone numbering visible seen hidden cs bs rest v p.1 later in
    let given = first_before k.0 others.0 in
    (given, more b k.0 bs others.0 given k.1 others.1 refl, rw s (first_before_alike (Pairs AlikeRead) x k.0 rest others.0 k.2 others.2))
each_alike deeper alone numbering visible seen hidden arguments _ out v p _ = absurd p

-- ---- levels

abbrev FittingAlike : (Site → Result (List (List Read)) PlacedFault → Type 0) → Type 0
FittingAlike Fitting =
    (s t : Site) (out : Result (List (List Read)) PlacedFault) → AlikeSite s t → Fitting s out
    → (answer : Result (List (List Read)) PlacedFault) × Fitting t answer × AlikeResult (Pairs (Pairs AlikeRead)) out answer

answers_by_alike : (Fitting : Site → Result (List (List Read)) PlacedFault → Type 0) → FittingAlike Fitting → AnswersAlike (answers_by Fitting)
answers_by_alike Fitting fitting d f s t out same a w =
    rw (← misfit_alike d.parameters f.parameters s.arguments t.arguments same.1 a.arguments) (decided (misfit d.parameters s.arguments) w)
  where
    decided : (error : Option PreprocessorError) → MatchOption error (Fitting s out) (λ error. out ≡ Err (error, s.paren))
        → (answer : Result (List (List Read)) PlacedFault) × MatchOption error (Fitting t answer) (λ error. answer ≡ Err (error, t.paren))
        × AlikeResult (Pairs (Pairs AlikeRead)) out answer
    decided None w = fitting s t out a w
    decided (Some error) w = (Err (error, t.paren), refl, rw w (refl, a.paren))

expands_alike : (level : ℕ) → FittingAlike (ExpandsArguments level)
expands_alike zero s t out a w = (Err (RecursionLimitReached, t.paren), refl, rw w (refl, a.paren))
expands_alike (suc level) s t out a w =
    rw (← a.numbering, ← a.open_around)
    (each_alike (Alone level) (alone_alike (answers_at level) (answers_by_alike (ExpandsArguments level) (expands_alike level))) s.numbering s.visible
    t.visible s.open_around s.arguments t.arguments out a.visible a.arguments w)

-- alike calls have alike answers
pub answers_alike : (level : ℕ) → AnswersAlike (answers_at level)
answers_alike level = answers_by_alike (ExpandsArguments level) (expands_alike level)

-- A reader that follows another gives alike items.
pub alike_emits : {R S : Type 0} (Alike : R → S → Type 0) (I : Reading R) (J : Reading S) → Follows Alike I J → (level : ℕ) → (e f : Expander R) (o : Taken)
    (u : Expander S) → AlikeExpander Alike e u → Emits I (answers_at level) e o f
    → (p : Taken) × (g : Expander S) × Emits J (answers_at level) u p g × AlikeTaken o p × AlikeExpander Alike f g
alike_emits Alike I J follows level e f o u a i = emits_alike Alike I J follows (answers_at level) (answers_alike level) e f o u a i
