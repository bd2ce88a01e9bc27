-- Each token or line of a source has an outcome, and reading the source gives something next.
use Rattle.std.proofs.Common.{◌≡◌, sym, subst, ℕ, zero, suc, ◌<◌, Bool, true, false, List, refl, arith, Option, Some, None, ◌⊎◌, inl, inr}
use Rattle.std.specs.Prelude.{Result, Ok, Err, pos, ◌-ℤ◌}
use Rattle.pp_lexer.specs.declared.token.Location.{Location}
use Rattle.pp_lexer.specs.declared.token.PreprocessorError.TheVariants.{DefineRedefined}
use Rattle.pp_lexer.specs.declared.token.Token.{Token}
use Rattle.pp_model.specs.declared.read.Taken.{Taken}
use Rattle.pp_model.specs.declared.read.Taken.TheVariants as taken
use Rattle.pp_model.specs.Places.{PlacedFault, in_text, placed, unasked}
use Rattle.pp_model.specs.Definitions.{Definition, IsSameDefinition}
use Rattle.pp_model.specs.Painting.{taken_of}
use Rattle.pp_model.specs.Reading.{Expander}
use Rattle.pp_model.specs.Calls.{Answers}
use Rattle.pp_model.specs.LineValues.{IsCondition, IsLineNumber}
use Rattle.pp_model.specs.SourceReader.{SourceReader}
use Rattle.pp_model.specs.Acts.{Acted, decided, act}
use Rattle.pp_model.specs.Reads.{Does, here, later, source_reading, numbered_line}
use Rattle.pp_model.specs.inner.Reads.{after_define}
use Rattle.pp_model.specs.ExistenceLaws.{is_given_token, IsFinite, AnAnswer, AStep, AReading}
use Rattle.pp_model.specs.declared.definition.Named.{Named}
use Rattle.pp_model.specs.declared.outcome.Outcome.{Outcome}
use Rattle.pp_model.specs.declared.outcome.Outcome.TheVariants as outcome
use Rattle.pp_model.specs.declared.step.Step.{Step}
use Rattle.pp_model.specs.declared.step.Step.TheVariants as step
use Rattle.pp_model.proofs.existence.Turns.{is_token, Given, GoesOn}
use Rattle.pp_model.proofs.existence.EveryExpander.{every}
use Rattle.pp_model.proofs.existence.DefinitionLemmas.{with_one, same_definition}
use Rattle.pp_model.proofs.existence.LineValueLemmas.{a_condition, a_line_number}
use Rattle.pp_model.proofs.existence.MoveLemmas.{stops, Moves, moves, left, act_less_left}
use Rattle.pp_model.specs.Numbering.{list_numbering}

-- reading goes on after a step with this outcome, or a token was given
abbrev pub goes : Option Taken → Bool
goes None = true
goes (Some x) = is_token x

abbrev pub HasFinite : SourceReader → Type 0
HasFinite r = IsFinite r.definitions

token_given : (text : ℕ) (o : Outcome) → is_token (taken_of text o) ≡ true → is_given_token o ≡ true
token_given text (outcome.Token token) h = refl
token_given text _ h = h

module _ (A : Answers) (answered : AnAnswer A) where
  -- ---- one token or line

  -- what a step gives, and the reader after it, of which less is left if reading goes on
  pub record Stepped (r : SourceReader) (a : Acted) : Type 0 where
    pub outcome : Option Taken
    pub after : SourceReader
    pub does : Does A r a.step a.after outcome after
    pub finite : HasFinite after
    pub falls : goes outcome ≡ true → left after < left r

  module _ (r : SourceReader) (a : Acted) (moved : Moves r a) (less : stops a.step ≡ false → left a.after < left r) (f : HasFinite r) where
    by_step : (did : Step) (o : Option Taken) (t : SourceReader) → a.step ≡ did → Does A r did a.after o t → Does A r a.step a.after o t
    by_step did o t p d = subst (λ z. Does A r z a.after o t) (sym p) d

    -- an outcome with which reading goes on, after the items that are taken
    passed : (did : Step) (t : SourceReader) → a.step ≡ did → stops did ≡ false → HasFinite t → left t ≡ left a.after → Does A r did a.after None t
        → Stepped r a
    passed did t p on finite same d = record {
      outcome = None;
      after = t;
      does = by_step did None t p d;
      finite = finite;
      falls = λ h. omega (arith, same, less (rw p on));
    }

    -- a fault
    faulty : (did : Step) (fault : PlacedFault) (t : SourceReader) → a.step ≡ did → HasFinite t → Does A r did a.after (Some (taken.Fault fault)) t → Stepped r a
    faulty did fault t p finite d =
        record { outcome = Some (taken.Fault fault); after = t; does = by_step did _ t p d; finite = finite; falls = λ h. cc }

    defined_by : (named : Named) → a.step ≡ step.Defines named → (old : Option Definition) → r.definitions named.name ≡ old → Stepped r a
    defined_by named p None q =
        passed (step.Defines named) (after_define named a.after) p refl
        (with_one a.after.definitions named.name (moved.finite f) named.definition) refl (rw q (refl, refl))
    defined_by named p (Some old) q = by (same_definition old named.definition)
      where
        by : IsSameDefinition old named.definition ⊎ (IsSameDefinition old named.definition → ⊥) → Stepped r a
        by (inl same) = passed (step.Defines named) a.after p refl (moved.finite f) refl (rw q (refl, inl (same, refl)))
        by (inr other) = faulty (step.Defines named) (placed r.text (DefineRedefined, named.location)) a.after p (moved.finite f) (rw q (refl, inr (other, refl)))

    decided_by : (word : Location) (tokens : List Token) → a.step ≡ step.Condition word tokens
        → (x : Result Bool PlacedFault) → IsCondition A (in_text r.text word) tokens (list_numbering r.rules r.line_offset) r.definitions x → Stepped r a
    decided_by word tokens p (Ok holds) c =
        passed (step.Condition word tokens) (decided r.position holds a.after) p refl (moved.finite f) refl (Ok holds, c, (refl, refl))
    decided_by word tokens p (Err fault) c = faulty (step.Condition word tokens) (unasked fault) r p f (Err fault, c, (refl, refl))

    numbered_by : (word : Location) (tokens : List Token) → a.step ≡ step.LineNumber word tokens
        → (x : Result ℕ PlacedFault) → IsLineNumber A (in_text r.text word) tokens (list_numbering r.rules r.line_offset) r.definitions x → Stepped r a
    numbered_by word tokens p (Ok n) c =
        let t : SourceReader = record a.after { line_offset = pos n -ℤ pos (numbered_line r.rules word.line) } in
        passed (step.LineNumber word tokens) t p refl (moved.finite f) refl (Ok n, c, (refl, refl))
    numbered_by word tokens p (Err fault) c = faulty (step.LineNumber word tokens) (unasked fault) r p f (Err fault, c, (refl, refl))

    step_by : (s : Step) → a.step ≡ s → Stepped r a
    step_by step.Passed p = passed step.Passed a.after p refl (moved.finite f) refl (refl, refl)
    step_by (step.Given x) p = record {
      outcome = Some (taken_of r.text x);
      after = a.after;
      does = by_step (step.Given x) (Some (taken_of r.text x)) a.after p (refl, refl);
      finite = moved.finite f;
      falls = λ h. less (rw p (rw (token_given r.text x h) refl));
    }
    step_by (step.Defines named) p = defined_by named p (r.definitions named.name) refl
    step_by (step.Condition word tokens) p =
        let c = a_condition A answered (in_text r.text word) tokens (list_numbering r.rules r.line_offset) r.definitions f in
        decided_by word tokens p c.0 c.1
    step_by (step.LineNumber word tokens) p =
        let c = a_line_number A answered (in_text r.text word) tokens (list_numbering r.rules r.line_offset) r.definitions f in
        numbered_by word tokens p c.0 c.1

    pub stepped_as : Stepped r a
    stepped_as = step_by a.step refl

  stepped : (r : SourceReader) → HasFinite r → Stepped r (act r)
  stepped r f = stepped_as r (act r) (moves r) (act_less_left r) f

  -- ---- up to what is given next

  read_on : (fuel : ℕ) (r : SourceReader) → HasFinite r → left r < fuel → Given (source_reading A) HasFinite left r
  read_on zero r f room = absurd (omega (arith, room))
  read_on (suc fuel) r f room =
      let s = stepped r f in
      go s s.outcome refl (λ less. read_on fuel s.after s.finite (omega (arith, less, room)))
    where
      go : (s : Stepped r (act r)) (o : Option Taken) → s.outcome ≡ o → (left s.after < left r → Given (source_reading A) HasFinite left s.after)
          → Given (source_reading A) HasFinite left r
      go s (Some x) p more = record {
        given = x;
        after = s.after;
        reads = here x r s.after (rw p at s.does);
        fine = s.finite;
        falls = λ h. s.falls (rw p h);
      }
      go s None p more =
          let less = s.falls (rw p refl) in
          let rest = more less in
          record {
            given = rest.given;
            after = rest.after;
            reads = later rest.given r s.after rest.after (rw p at s.does) rest.reads;
            fine = rest.fine;
            falls = λ h. omega (arith, rest.falls h, less);
          }

  -- Reading a source gives something, and after a token less of it is left.
  source_gives : (r : SourceReader) → HasFinite r → Given (source_reading A) HasFinite left r
  source_gives r f = read_on (suc (left r)) r f (omega arith)

  -- So every expander over a source goes on.
  pub every_source : (e : Expander SourceReader) → HasFinite e.reader → GoesOn (source_reading A) A HasFinite e
  every_source = every (record { gives = source_gives; finite = λ r finite. finite; answered = answered })

  pub a_step : AStep A
  a_step r f = let s = stepped r f in (s.outcome, s.after, s.does)

  pub source_reads : AReading (source_reading A)
  source_reads r f = let g = source_gives r f in (g.given, g.after, g.reads)
