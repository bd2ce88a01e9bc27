-- Every source has an item in each state of a run, and a run of each list of calls.
use Rattle.std.proofs.Common.{◌≡◌, ℕ, Bool, true, false, List, [], ◌∷◌, refl}
use Rattle.std.specs.Prelude.{Result, Ok, Err, ◌+◌}
use Rattle.std.specs.Str.{chars}
use Rattle.pp_lexer.specs.Lexed.{Seen}
use Rattle.pp_lexer.specs.declared.token.Token.{Token}
use Rattle.pp_lexer.specs.declared.rules.Rules.{Rules}
use Rattle.pp_model.specs.Places.{Fault}
use Rattle.pp_model.specs.Painting.{item_of}
use Rattle.pp_model.specs.Reading.{Expander}
use Rattle.pp_model.specs.Calls.{Answers}
use Rattle.pp_model.specs.Definitions.{object_like}
use Rattle.pp_model.specs.Emitting.{answers_at, expansion_limit}
use Rattle.pp_model.specs.SourceReader.{SourceReader, is_full}
use Rattle.pp_model.specs.Reads.{source_reading}
use Rattle.pp_model.specs.Run.{Call, add_define, include, next, items_by, content_tokens, start_by, with_added, with_included, is_fault, Gives, by_rules, Runs, done, added, refused, included, too_deep, given, failed}
use Rattle.pp_model.specs.ExistenceLaws.{AnAnswer, AnItem, RunDefinesFinitelyMany, ARun}
use Rattle.pp_model.specs.RunStates.{LeadsTo}
use Rattle.pp_model.specs.declared.call.Reply.{Reply}
use Rattle.pp_model.specs.declared.call.Reply.TheVariants as reply
use Rattle.pp_model.specs.declared.outcome.Outcome.{Outcome}
use Rattle.pp_model.specs.declared.outcome.Outcome.TheVariants as outcome
use Rattle.pp_model.proofs.runs.RunLemmas.{each_state}
use Rattle.pp_model.proofs.calls.LevelLemmas.{one_answer, one_item_at}
use Rattle.pp_model.proofs.source.ReadsLemmas.{source_reads_one}
use Rattle.pp_model.proofs.existence.Turns.{next_item}
use Rattle.pp_model.proofs.existence.ArgumentLemmas.{an_answer}
use Rattle.pp_model.proofs.existence.DefinitionLemmas.{with_one}
use Rattle.pp_model.proofs.existence.SourceLemmas.{HasFinite, every_source}

module _ (A : Answers) (answered : AnAnswer A) where
  -- A source has a next item.
  pub source_item : AnItem (source_reading A) A
  source_item e finite = let i = next_item e (every_source A answered e finite) in (i.item, i.after, i.emits)

module _ (A : Answers) (answered : AnAnswer A) (rules : Rules) where
  -- ---- replies

  abbrev Running : Expander SourceReader → List Call → Type 0
  Running e calls = (replies : List Reply) × Runs (by_rules A) rules e calls replies

  adds : (name content : List ℕ) (e : Expander SourceReader) (calls : List Call) → (x : Result (List Token) Fault) → content_tokens (items_by rules content) ≡ x
      → ((tokens : List Token) → Running (with_added (chars name) tokens e) calls) → Running e calls → Running e (add_define name content ∷ calls)
  adds name content e calls (Ok tokens) p more same =
      let replies = reply.Added ∷ (more tokens).0 in
      (replies, added name content tokens e calls (more tokens).0 replies p (more tokens).1 refl)
  adds name content e calls (Err fault) p more same =
      let replies = reply.Refused fault ∷ same.0 in
      (replies, refused name content fault e calls same.0 replies p same.1 refl)

  includes : (text : List ℕ) (e : Expander SourceReader) (calls : List Call) → (full : Bool) → is_full e.reader ≡ full
      → Running (with_included (items_by rules text) e) calls → Running e calls → Running e (include text ∷ calls)
  includes text e calls false p more same = (reply.Included ∷ more.0, included text e calls more.0 (reply.Included ∷ more.0) p more.1 refl)
  includes text e calls true p more same = (reply.TooDeep ∷ same.0, too_deep text e calls same.0 (reply.TooDeep ∷ same.0) p same.1 refl)

  goes_on : (e f : Expander SourceReader) (calls : List Call) (o : Outcome) → Gives A e o f → is_fault o ≡ false → Running f calls → Running e (next ∷ calls)
  goes_on e f calls o g on rest = (reply.Given o ∷ rest.0, given o e f calls rest.0 (reply.Given o ∷ rest.0) g on rest.1 refl)

  gives_next : (e f : Expander SourceReader) (calls : List Call) (o : Outcome) → Gives A e o f → Running f calls → Running e (next ∷ calls)
  gives_next e f calls (outcome.Token token) g rest = goes_on e f calls (outcome.Token token) g refl rest
  gives_next e f calls (outcome.Include line) g rest = goes_on e f calls (outcome.Include line) g refl rest
  gives_next e f calls outcome.End g rest = goes_on e f calls outcome.End g refl rest
  gives_next e f calls (outcome.Fault fault) g rest =
      let replies = reply.Given (outcome.Fault fault) ∷ [] in
      (replies, failed fault e f calls replies g refl)

  replies_to : (calls : List Call) (e : Expander SourceReader) → HasFinite e.reader → Running e calls
  replies_to [] e finite = ([], done e [] refl)
  replies_to (add_define name content ∷ calls) e finite =
      adds name content e calls (content_tokens (items_by rules content)) refl
      (λ tokens. replies_to calls (with_added (chars name) tokens e) (with_one e.reader.definitions (chars name) finite (object_like (e.reader.contents + 1) tokens)))
      (replies_to calls e finite)
  replies_to (include text ∷ calls) e finite =
      includes text e calls (is_full e.reader) refl (replies_to calls (with_included (items_by rules text) e) finite) (replies_to calls e finite)
  replies_to (next ∷ calls) e finite =
      let i = next_item e (every_source A answered e finite) in
      gives_next e i.after calls (item_of i.item) (record { taken = i.item; emits = i.emits; is = refl }) (replies_to calls i.after i.fine)

-- ---- states

-- At the start of a source no name is defined.
pub start_finite : (rules : Rules) (source : List Seen) → HasFinite (start_by rules source).reader
start_finite rules source = record { names = []; among = λ name definition h. cc }

module _ (level : ℕ) where
  leads_to_finite : (e f : Expander SourceReader) → LeadsTo (answers_at level) true e f → HasFinite e.reader → HasFinite f.reader
  leads_to_finite = each_state (answers_at level) (λ e. HasFinite e.reader)
      (λ name tokens e finite. with_one e.reader.definitions name finite (object_like (e.reader.contents + 1) tokens))
      (λ x e f item finite.
      let i = next_item e (every_source (answers_at level) (an_answer level) e finite) in
      let one = one_item_at (source_reading (answers_at level)) (source_reads_one (answers_at level) (one_answer level)) level in
      let same : f ≡ i.after = (one x i.item e f i.after item i.emits).1 in
      rw same i.fine)
      true (λ may text rules e finite. finite)

  -- In each state of a run finitely many names are defined.
  pub run_defines_finitely_many : RunDefinesFinitelyMany (answers_at level)
  run_defines_finitely_many rules source e reached = leads_to_finite (start_by rules source) e reached (start_finite rules source)

-- ---- runs

-- Every source has a run, whatever is called.
pub a_run : ARun
a_run rules text calls =
    replies_to (answers_at expansion_limit) (an_answer expansion_limit) rules calls (start_by rules (items_by rules text)) (start_finite rules (items_by rules text))
