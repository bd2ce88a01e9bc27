-- A source gives finitely many tokens, and then an error or the end.
use Rattle.std.proofs.Common.{◌≡◌, true, false, Option, Some, None, List, [], ◌∷◌, refl}
use Rattle.pp_lexer.specs.declared.token.Location.{Location}
use Rattle.pp_lexer.specs.declared.token.Token.{Token}
use Rattle.pp_model.specs.Places.{PlacedFault}
use Rattle.pp_model.specs.Painting.{fault_item, item_of}
use Rattle.pp_model.specs.Reading.{Expander}
use Rattle.pp_model.specs.Calls.{Answers}
use Rattle.pp_model.specs.Emitting.{Emits}
use Rattle.pp_model.specs.SourceReader.{SourceReader}
use Rattle.pp_model.specs.Reads.{source_reading}
use Rattle.pp_model.specs.Run.{Gives}
use Rattle.pp_model.specs.ExistenceLaws.{is_given_token, AnAnswer, Ends, last, first, AnEnd}
use Rattle.pp_model.specs.declared.outcome.Outcome.{Outcome}
use Rattle.pp_model.specs.declared.outcome.Outcome.TheVariants as outcome
use Rattle.pp_model.specs.declared.read.Taken.{Taken}
use Rattle.pp_model.specs.declared.read.Taken.TheVariants as taken
use Rattle.pp_model.proofs.existence.Turns.{is_token, GoesOn, goes_on}
use Rattle.pp_model.proofs.existence.SourceLemmas.{HasFinite, every_source}

module _ (A : Answers) where
  abbrev Ending : Expander SourceReader → Type 0
  Ending e = (tokens : List Token) × (o : Outcome) × Ends A e tokens o

  given : (e f : Expander SourceReader) (x : Taken) → Emits (source_reading A) A e x f → Gives A e (item_of x) f
  given e f x i = record { taken = x; emits = i; is = refl }

  no_token : (fault : PlacedFault) (asks : Option Location) → is_given_token (fault_item fault asks) ≡ false
  no_token fault (Some rest) = refl
  no_token fault None = refl

  given_first : (e f : Expander SourceReader) (x : Taken) → Emits (source_reading A) A e x f → (is_token x ≡ true → Ending f) → Ending e
  given_first e f (taken.Token read) i more =
      let rest = more refl in
      (read.token ∷ rest.0, rest.1, first read.token rest.1 rest.0 (read.token ∷ rest.0) e f (given e f (taken.Token read) i) rest.2 refl)
  given_first e f (taken.Fault fault) i more =
      let o = fault_item fault fault.1.asks in
      ([], o, last o [] e f (given e f (taken.Fault fault) i) (no_token fault fault.1.asks) refl)
  given_first e f taken.End i more = ([], outcome.End, last outcome.End [] e f (given e f taken.End i) refl refl)

  ending : (e : Expander SourceReader) → GoesOn (source_reading A) A HasFinite e → Ending e
  ending e (goes_on x o e1 f h takes fine_f more emits fine_h next) = given_first e h o emits (λ k. ending h (next k))

  -- A source gives tokens, and then an error or the end.
  pub an_end : AnAnswer A → AnEnd A
  an_end answered e finite = ending e (every_source A answered e finite)
