-- The expander with calls over a source is the definitions' expander of it.
use Rattle.std.proofs.Common.{◌≡◌, false, ℕ, [], refl, sym, ap, None}
use Rattle.std.specs.Prelude.{if◌then◌else◌, Ok, Err}
use Rattle.pp_model.specs.Names.{Name}
use Rattle.pp_model.specs.Definitions.{Definitions}
use Rattle.pp_model.specs.Reading.{Expander}
use Rattle.pp_model.specs.Calls.{Answers}
use Rattle.pp_model.specs.declared.read.Read.{Read}
use Rattle.pp_model.specs.declared.read.Taken.TheVariants as given
use Rattle.pp_macros.specs.inner.CallTurns.{TurnsTo}
use Rattle.pp_macros.specs.Item.{PlacedStep, wants_memory}
use Rattle.pp_macros.specs.inner.Expander as kept
use Rattle.pp_macros.specs.inner.Reader.{Reader, of_source, of_list, Reads, hidden_of, shown_line, visible}
use Rattle.pp_model.specs.Onward.{Onward, here, later}
use Rattle.pp_rs.specs.Comes.{source_rules}
use Rattle.pp_macros.specs.inner.Source.{Source}
use Rattle.pp_rs.specs.inner.Stands.{StandsOnward}
use Rattle.pp_macros.specs.declared.calls.Taken.{Taken}
use Rattle.pp_macros.specs.declared.step.PlacedExit.TheVariants.{Error, Continue, Finished}
use Rattle.pp_macros.proofs.open_frames.ReportedLemmas.{wants_taken}
use Rattle.pp_macros.proofs.taking.SearchSimulates.{ReadsTo, StandsIn}
use Rattle.pp_rs.proofs.source.EndSimulates.{remembers}
use Rattle.pp_rs.proofs.source.OnwardSimulates.{OnwardStep, source_goes_on}
use Rattle.pp_rs.proofs.source.Simulates.{given_by}
use Rattle.pp_macros.proofs.taking.TurnLeadsLemmas.{LeadsTo, turn_leads}

abbrev pub IsSource : Reader → Onward → Type 0
IsSource (of_source source) x = StandsOnward source x
IsSource (of_list l) x = ⊥

reads_source : (new : Source) (x : Onward) (step : PlacedStep Read) → OnwardStep (given_by step) x new → ReadsTo source_rules IsSource [] step x (of_source new)
reads_source new x (Ok read) h = (h.after, here (given.Token read) x h.after h.steps, h.stands)
reads_source new x (Err Continue) h = (h.after, h.stands, λ o z reads. later o x h.after z h.steps reads)
reads_source new x (Err Finished) h = (h.after, here given.End x h.after h.steps, h.stands)
reads_source new x (Err (Error fault)) h = (h.after, here (given.Fault fault) x h.after h.steps, h.stands)

pub sources_simulate : (r s : Reader) (x : Onward) (step : PlacedStep Read) → IsSource r x → Reads r step s → wants_memory step ≡ false
    → ReadsTo source_rules IsSource [] step x s
sources_simulate (of_source old) (of_source new) x step stands h reported = reads_source new x step (source_goes_on old new x step stands h reported)
sources_simulate (of_source old) (of_list new) x step stands h reported = absurd h
sources_simulate (of_list old) s x step stands h reported = absurd stands

pub source_shows : (s : Reader) (y : Onward) (line : ℕ) → IsSource s y → source_rules.shown_line y line ≡ shown_line s line
source_shows (of_source source) y line stands = rw (stands.reader.rules, (remembers stands.reader.here).line_offset) refl
source_shows (of_list l) y line stands = absurd stands

pub source_hides : (s : Reader) (y : Onward) → IsSource s y → hidden_of s ≡ []
source_hides (of_source source) y stands = refl
source_hides (of_list l) y stands = absurd stands

pub source_sees : (s : Reader) (y : Onward) (name : Name) → IsSource s y
    → visible s name ≡ (if source_rules.is_reserved name then None else source_rules.visible y name)
source_sees (of_source source) y name stands = ap (λ (d : Definitions). d name) (sym stands.reader.definitions)
source_sees (of_list l) y name stands = absurd stands

-- one turn over a source
pub source_leads : (A : Answers) (m n : kept.Expander) (r s : Reader) (step : PlacedStep Taken) (e : Expander Onward)
    → StandsIn source_rules IsSource [] m r e → TurnsTo m r step n s → wants_taken step ≡ false
    → LeadsTo source_rules IsSource [] sources_simulate source_shows source_hides source_sees A step e n s
source_leads A m n r s step e stands turns reported = turn_leads source_rules IsSource
    [] sources_simulate source_shows source_hides source_sees A m n r s step e stands turns reported
