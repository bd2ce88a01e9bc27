-- What each step of a source, each definition that is added and each text that is included keep for its reader holds of the
-- reader in each state of a run.
use Rattle.std.proofs.Common.{ℕ, true, List, [], sym, ap, subst, Option, Some, None}
use Rattle.pp_lexer.specs.Lexed.{Seen}
use Rattle.pp_lexer.specs.declared.rules.Rules.{Rules}
use Rattle.pp_lexer.specs.declared.token.Token.{Token}
use Rattle.pp_model.specs.Names.{Name}
use Rattle.pp_model.specs.Definitions.{Definition}
use Rattle.pp_model.specs.Reading.{Expander}
use Rattle.pp_model.specs.Taking.{Fetches, held, listed, read, Takes}
use Rattle.pp_model.specs.Calls.{Answers, Called, Calls}
use Rattle.pp_model.specs.Emitting.{with_macro, Emits, itself, object, name_alone, call_refused, call}
use Rattle.pp_model.specs.SourceReader.{SourceReader, reader_at_start, with_text}
use Rattle.pp_model.specs.Reads.{Steps, Reads, here, later, source_reading}
use Rattle.pp_model.specs.Run.{items_by, start_by}
use Rattle.pp_model.specs.inner.Run.{after_addition as with_definition}
use Rattle.pp_model.specs.RunStates.{IsReached}
use Rattle.pp_model.specs.declared.read.Taken.{Taken}
use Rattle.pp_model.proofs.runs.RunLemmas.{each_state}
use Rattle.pp_model.proofs.calls.SearchLeadsLemmas.{call_leads}

-- each step keeps it, and so do a definition that is added and a text that is included
pub record IsKept (A : Answers) (P : SourceReader → Type 0) : Type 0 where
  pub by_step : (o : Option Taken) (r t : SourceReader) → Steps A r o t → P r → P t
  pub by_definition : (name : Name) (tokens : List Token) (r : SourceReader) → P r → P (with_definition name tokens r)
  pub by_text : (text : List ℕ) (rules : Rules) (r : SourceReader) → P r → P (with_text (items_by rules text) r)

module _ (A : Answers) (P : SourceReader → Type 0) (kept : IsKept A P) where
  reading_keeps : (x : Taken) (r t : SourceReader) → Reads A r x t → P r → P t
  reading_keeps x r t (here x1 r1 t1 s) h = kept.by_step (Some x) r t s h
  reading_keeps x r t (later x1 r1 s t1 first more) h = reading_keeps x s t more (kept.by_step None r s first h)

  fetching_keeps : (o : Taken) (e f : Expander SourceReader) → Fetches (source_reading A) e o f → P e.reader → P f.reader
  fetching_keeps o e f (held o1 e1 f1 is p) h = subst P (sym (ap (λ g. g.reader) p)) h
  fetching_keeps o e f (listed o1 token rest e1 f1 none b is p) h = subst P (sym (ap (λ g. g.reader) p)) h
  fetching_keeps o e f (read x o1 reader e1 f1 none b r is p) h = subst P (sym (ap (λ g. g.reader) p)) (reading_keeps x e.reader reader r h)

  taking_keeps : (o : Taken) (e f : Expander SourceReader) → Takes (source_reading A) e o f → P e.reader → P f.reader
  taking_keeps o e f takes h = fetching_keeps takes.first e f takes.fetches h

  call_keeps : (m : Definition) (c : Called) (e f : Expander SourceReader) → Calls (source_reading A) A m e c f → P e.reader → P f.reader
  call_keeps = call_leads (source_reading A) (λ e f. P e.reader → P f.reader) (λ e f g first later h. later (first h)) taking_keeps A

  item_keeps : (o : Taken) (e f : Expander SourceReader) → Emits (source_reading A) A e o f → P e.reader → P f.reader
  item_keeps o e f (itself x o1 e1 f1 t none p) h = taking_keeps x e f t h
  item_keeps o e f (object x o1 m e1 g f1 t some k i) h = item_keeps o (with_macro m m.token.location.line [] g) f i (taking_keeps x e g t h)
  item_keeps o e f (name_alone x y o1 m e1 g g1 f1 t some k c p q) h =
      subst P (sym (ap (λ z. z.reader) q)) (call_keeps m.definition _ g g1 c (taking_keeps x e g t h))
  item_keeps o e f (call_refused x o1 fault m e1 g f1 t some k c p) h = call_keeps m.definition _ g f c (taking_keeps x e g t h)
  item_keeps o e f (call x o1 arguments line m e1 g g1 f1 t some k c i) h =
      item_keeps o (with_macro m line arguments g1) f i (call_keeps m.definition _ g g1 c (taking_keeps x e g t h))

  -- what holds of the reader at a source's start holds of it in each state of a run
  pub reached_keeps : (rules : Rules) (source : List Seen) (e : Expander SourceReader) → IsReached A rules source e → P (reader_at_start rules source)
      → P e.reader
  reached_keeps rules source e reached h =
      each_state A (λ f. P f.reader) (λ name tokens f. kept.by_definition name tokens f.reader) item_keeps true (λ may text rules f. kept.by_text text rules f.reader)
      (start_by rules source) e reached h
