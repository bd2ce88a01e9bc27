-- At every level an argument that is read alone gives a list of tokens, or a fault, and each call has an answer.
use Rattle.std.proofs.Common.{◌≡◌, ℕ, zero, suc, false, List, [], ◌∷◌, refl, Option, Some, None}
use Rattle.std.specs.Prelude.{MatchOption, Result, Ok, Err}
use Rattle.pp_lexer.specs.declared.token.PreprocessorError.{PreprocessorError}
use Rattle.pp_lexer.specs.declared.token.PreprocessorError.TheVariants.{RecursionLimitReached}
use Rattle.pp_model.specs.Places.{PlacedFault}
use Rattle.pp_model.specs.Names.{Name}
use Rattle.pp_model.specs.Definitions.{Definitions}
use Rattle.pp_model.specs.Reading.{reading_of}
use Rattle.pp_model.specs.Calls.{Answers, Site, misfit}
use Rattle.pp_model.specs.Emitting.{Alones, first_before, Each, none, first_failed, more, answers_by, alone_by, ExpandsArguments, answers_at, Alone}
use Rattle.pp_model.specs.ExistenceLaws.{IsFinite, AnAnswer, AnArgument}
use Rattle.pp_model.specs.declared.read.Read.{Read}
use Rattle.pp_model.proofs.existence.ListLemmas.{a_list}
use Rattle.pp_model.specs.declared.numbering.Numbering.{Numbering}

module _ (deeper : Alones) (argument_alone : AnArgument deeper) (numbering : Numbering) (visible : Definitions) (hidden : List Name) (finite : IsFinite visible) where
  abbrev EachOf : List (List Read) → Type 0
  EachOf arguments = (out : Result (List (List Read)) PlacedFault) × Each deeper numbering visible hidden arguments out

  and_more : (argument : List Read) (arguments : List (List Read)) (x : Result (List Read) PlacedFault) → deeper argument numbering visible hidden x
      → EachOf arguments → EachOf (argument ∷ arguments)
  and_more argument arguments (Ok expanded) a rest =
      (first_before expanded rest.0, more argument expanded arguments rest.0 (first_before expanded rest.0) a rest.1 refl)
  and_more argument arguments (Err fault) a rest = (Err fault, first_failed argument arguments fault (Err fault) a refl)

  each : (arguments : List (List Read)) → EachOf arguments
  each [] = (Ok [], none (Ok []) refl)
  each (argument ∷ arguments) =
      let first = argument_alone argument numbering visible hidden finite in
      and_more argument arguments first.0 first.1 (each arguments)

-- a call has an answer, if each that has the right number of arguments has one
an_answer_by : (Fitting : Site → Result (List (List Read)) PlacedFault → Type 0)
    → ((site : Site) → IsFinite site.visible → (out : Result (List (List Read)) PlacedFault) × Fitting site out) → AnAnswer (answers_by Fitting)
an_answer_by Fitting fitting definition site finite = decided (misfit definition.parameters site.arguments)
  where
    decided : (error : Option PreprocessorError)
        → (out : Result (List (List Read)) PlacedFault) × MatchOption error (Fitting site out) (λ error. out ≡ Err (error, site.paren))
    decided None = fitting site finite
    decided (Some error) = (Err (error, site.paren), refl)

an_argument_by : (A : Answers) → AnAnswer A → AnArgument (alone_by A)
an_argument_by A answers tokens numbering visible hidden finite = a_list (λ name. false) A answers (reading_of tokens numbering visible hidden) finite

-- the arguments of a call have a list each, or there is a fault
an_expansion : (level : ℕ) (site : Site) → IsFinite site.visible → (out : Result (List (List Read)) PlacedFault) × ExpandsArguments level site out
an_expansion zero site finite = (Err (RecursionLimitReached, site.paren), refl)
an_expansion (suc level) site finite =
    each (Alone level) (an_argument_by (answers_at level) (an_answer_by (ExpandsArguments level) (an_expansion level)))
    site.numbering site.visible site.open_around finite site.arguments

-- A call gives a list of expanded arguments, or a fault.
pub an_answer : (level : ℕ) → AnAnswer (answers_at level)
an_answer level = an_answer_by (ExpandsArguments level) (an_expansion level)

-- An argument that is read alone gives a list of tokens, or a fault.
pub an_argument : (level : ℕ) → AnArgument (Alone level)
an_argument level = an_argument_by (answers_at level) (an_answer level)
