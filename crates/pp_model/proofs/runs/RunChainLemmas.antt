-- Calls that follow one another are a run.
use Rattle.std.proofs.Common.{ap, sym, List, [], ◌∷◌, ◌++◌, refl, append-nil, append_assoc}
use Rattle.pp_lexer.specs.declared.rules.Rules.{Rules}
use Rattle.pp_model.specs.Places.{Fault, unplaced}
use Rattle.pp_model.specs.Reading.{Expander}
use Rattle.pp_model.specs.Calls.{Answers}
use Rattle.pp_model.specs.Painting.{fault_item}
use Rattle.pp_model.specs.SourceReader.{SourceReader}
use Rattle.pp_model.specs.Run.{Comings, by_rules, start_by, Call, next, Runs, done, added, refused, included, too_deep, given, failed}
use Rattle.pp_model.specs.RunChains.{AnswersIn, adds, refuses, includes, refuses_text, gives, Chain, none, one_more, ChainsAreRuns}
use Rattle.pp_model.specs.declared.call.Reply.{Reply}
use Rattle.pp_model.specs.declared.call.Reply.TheVariants as reply
use Rattle.pp_model.specs.declared.outcome.Outcome.TheVariants as outcome
use Rattle.pp_model.specs.declared.read.Taken.TheVariants as taken

module _ (C : Comings) (rules : Rules) where
  -- one call before a run
  call_before : (e f : Expander SourceReader) (call : Call) (answer : Reply) (later : List Call) (rest : List Reply) → AnswersIn C rules e call answer f
      → Runs C rules f later rest → Runs C rules e (call ∷ later) (answer ∷ rest)
  call_before e f call answer later rest (adds name content tokens c1 a1 e1 f1 is c a p) run =
      rw (c, a) (added name content tokens e later rest (reply.Added ∷ rest) is (rw p at run) refl)
  call_before e f call answer later rest (refuses name content fault c1 a1 e1 f1 is c a p) run =
      rw (c, a) (refused name content fault e later rest (reply.Refused fault ∷ rest) is (rw p at run) refl)
  call_before e f call answer later rest (includes text c1 a1 e1 f1 is c a p) run =
      rw (c, a) (included text e later rest (reply.Included ∷ rest) is (rw p at run) refl)
  call_before e f call answer later rest (refuses_text text c1 a1 e1 f1 is c a p) run =
      rw (c, a) (too_deep text e later rest (reply.TooDeep ∷ rest) is (rw p at run) refl)
  call_before e f call answer later rest (gives o c1 a1 e1 f1 item plain c a) run =
      rw (c, a) (given o e f later rest (reply.Given o ∷ rest) item plain run refl)

  -- calls that follow one another before a run
  chain_before : (e f : Expander SourceReader) (calls later : List Call) (replies rest : List Reply) → Chain C rules e calls replies f
      → Runs C rules f later rest → Runs C rules e (calls ++ later) (replies ++ rest)
  chain_before e f calls later replies rest (none e1 f1 c1 r1 c r p) run = rw (c, r) (rw p at run)
  chain_before e f calls later replies rest (one_more e1 m f1 before c1 call answered r1 answer chain one c r) run =
      rw (c, r, append_assoc before (call ∷ []) later, append_assoc answered (answer ∷ []) rest)
      (chain_before e m before (call ∷ later) answered (answer ∷ rest) chain (call_before m f call answer later rest one run))

  -- calls that follow one another are a run,
  pub chain_runs : (e f : Expander SourceReader) (calls : List Call) (replies : List Reply) → Chain C rules e calls replies f → Runs C rules e calls replies
  chain_runs e f calls replies chain =
      rw (append-nil calls, append-nil replies) at (chain_before e f calls [] replies [] chain (done f [] refl))

  -- so they are where further calls are left after an error item,
  pub chain_runs_to_error : (e f g : Expander SourceReader) (calls later : List Call) (replies : List Reply) (fault : Fault)
      → Chain C rules e calls replies f → C f (outcome.Fault fault) g
      → Runs C rules e (calls ++ next ∷ later) (replies ++ reply.Given (outcome.Fault fault) ∷ [])
  chain_runs_to_error e f g calls later replies fault chain item =
      chain_before e f calls (next ∷ later) replies (reply.Given (outcome.Fault fault) ∷ []) chain
      (failed fault f g later (reply.Given (outcome.Fault fault) ∷ []) item refl)

-- and so it is by the definitions
pub chains_are_runs : (A : Answers) → ChainsAreRuns A
chains_are_runs A = record {
  whole = λ rules source calls replies f chain. chain_runs (by_rules A) rules (start_by rules source) f calls replies chain;
  to_error = λ rules source calls replies f g fault chain item plain.
      chain_runs_to_error (by_rules A) rules (start_by rules source) f g calls [] replies (unplaced fault) chain
      (record { taken = taken.Fault fault; emits = item; is = sym (ap (fault_item fault) plain) });
}
