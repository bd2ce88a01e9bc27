-- An argument alone, and a call, have one outcome at every level.
use Rattle.std.proofs.Common.{◌≡◌, ◌≢◌, ◌∙◌, ℕ, zero, suc, ◌-◌, arith, List, refl, sym, subst, Option, Some, None}
use Rattle.std.specs.Prelude.{MatchOption, Result, Ok, Err}
use Rattle.pp_lexer.specs.declared.token.PreprocessorError.{PreprocessorError}
use Rattle.pp_lexer.specs.declared.token.PreprocessorError.TheVariants.{RecursionLimitReached}
use Rattle.pp_model.specs.Places.{PlacedFault}
use Rattle.pp_model.specs.declared.read.Read.{Read}
use Rattle.pp_model.specs.Definitions.{Definition}
use Rattle.pp_model.specs.Reading.{Reading, argument_reading, reading_of}
use Rattle.pp_model.specs.Calls.{Answers, Site, misfit}
use Rattle.pp_model.specs.Emitting.{Alones, Each, none, first_failed, more, answers_by, alone_by, ExpandsArguments, answers_at, Alone}
use Rattle.pp_model.specs.ExpansionLaws.{OneReads, OneAnswer, OneCall, OneItem, OneArgument, OneEach}
use Rattle.pp_model.proofs.taking.TakingLemmas.{argument_reads_one}
use Rattle.pp_model.proofs.calls.CallsLemmas.{one_call}
use Rattle.pp_model.proofs.taking.EmittingLemmas.{one_item, one_list}

pub one_each : (deeper : Alones) → OneArgument deeper → OneEach deeper
one_each deeper one numbering visible hidden arguments x y (none x1 p) (none y1 q) = p ∙ sym q
one_each deeper one numbering visible hidden arguments x y (first_failed t ts c x1 a p) (first_failed u us d y1 b q) =
    let same = one t numbering visible hidden (Err c) (Err d) a b in
    let fault : c ≡ d = cc in
    p ∙ (rw fault (sym q))
one_each deeper one numbering visible hidden arguments x y (first_failed t ts c x1 a p) (more u d us s y1 b w q) = let bad = one t numbering visible hidden (Err c) (Ok d) a b in cc
one_each deeper one numbering visible hidden arguments x y (more t c ts r x1 a v p) (first_failed u us d y1 b q) = let bad = one t numbering visible hidden (Ok c) (Err d) a b in cc
one_each deeper one numbering visible hidden arguments x y (more t c ts r x1 a v p) (more u d us s y1 b w q) =
    let same = one t numbering visible hidden (Ok c) (Ok d) a b in
    let tokens : c ≡ d = cc in
    let rest = one_each deeper one numbering visible hidden ts r s v w in
    p ∙ (rw (tokens, rest) (sym q))

-- a call has one answer, if each that has the right number of arguments has one
one_answer_by : (Fitting : Site → Result (List (List Read)) PlacedFault → Type 0)
    → ((site : Site) (x y : Result (List (List Read)) PlacedFault) → Fitting site x → Fitting site y → x ≡ y) → OneAnswer (answers_by Fitting)
one_answer_by Fitting one definition site x y a b = decided (misfit definition.parameters site.arguments) a b
  where
    decided : (error : Option PreprocessorError) → MatchOption error (Fitting site x) (λ error. x ≡ Err (error, site.paren))
        → MatchOption error (Fitting site y) (λ error. y ≡ Err (error, site.paren)) → x ≡ y
    decided None a b = one site x y a b
    decided (Some error) a b = a ∙ sym b

one_alone : (A : Answers) → OneAnswer A → OneArgument (alone_by A)
one_alone A one tokens numbering visible hidden x y a b = one_list argument_reading argument_reads_one A one x y (reading_of tokens numbering visible hidden) a b

-- the arguments of a call have one list each, or there is one fault
one_expansion : (level : ℕ) (site : Site) (x y : Result (List (List Read)) PlacedFault) → ExpandsArguments level site x → ExpandsArguments level site y → x ≡ y
one_expansion zero site x y a b = a ∙ sym b
one_expansion (suc level) site x y a b =
    one_each (Alone level) (one_alone (answers_at level) (one_answer_by (ExpandsArguments level) (one_expansion level)))
    site.numbering site.visible site.open_around site.arguments x y a b

-- a call has one list of expanded arguments, or one fault
pub one_answer : (level : ℕ) → OneAnswer (answers_at level)
one_answer level = one_answer_by (ExpandsArguments level) (one_expansion level)

-- an argument that is read alone has one list of tokens, or one first fault
pub one_argument : (level : ℕ) → OneArgument (Alone level)
one_argument level = one_alone (answers_at level) (one_answer level)

-- what the arguments come to is what the call comes to, where their number is right
pub answers_each : (levels : ℕ) (definition : Definition) (site : Site) (out : Result (List (List Read)) PlacedFault) → levels ≢ 0
    → misfit definition.parameters site.arguments ≡ None → Each (Alone (levels - 1)) site.numbering site.visible site.open_around site.arguments out
    → answers_at levels definition site out
answers_each zero definition site out some fits each = absurd (some refl)
answers_each (suc levels) definition site out some fits each =
    let one : suc levels - 1 ≡ levels = omega arith in
    subst (λ (o : Option PreprocessorError). MatchOption o (ExpandsArguments (suc levels) site out) (λ error. out ≡ Err (error, site.paren))) (sym fits)
    (subst (λ (l : ℕ). Each (Alone l) site.numbering site.visible site.open_around site.arguments out) one each)

-- at the limit no call has lists of arguments
pub none_at_limit : (definition : Definition) (site : Site) (arguments : List (List Read)) → answers_at 0 definition site (Ok arguments) → ⊥
none_at_limit definition site arguments a = decided (Ok arguments) refl (misfit definition.parameters site.arguments) a
  where
    decided : (out : Result (List (List Read)) PlacedFault) → out ≡ Ok arguments → (error : Option PreprocessorError)
        → MatchOption error (out ≡ Err (RecursionLimitReached, site.paren)) (λ error. out ≡ Err (error, site.paren)) → ⊥
    decided out is None a = cc
    decided out is (Some error) a = cc

-- so each step of expansion has one outcome at every level
pub one_call_at : {R : Type 0} (I : Reading R) → OneReads I → (level : ℕ) → OneCall I (answers_at level)
one_call_at I one level = one_call I one (answers_at level) (one_answer level)

pub one_item_at : {R : Type 0} (I : Reading R) → OneReads I → (level : ℕ) → OneItem I (answers_at level)
one_item_at I one level = one_item I one (answers_at level) (one_answer level)
