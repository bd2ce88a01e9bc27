-- One call of a stream between those of `next`: a definition is added or has a fault, or a text is included.
use Rattle.std.proofs.Common.{◌≡◌, ◌∙◌, ℕ, List, [], ◌∷◌, Option, Some, None, true, false, refl, sym, ap}
use Rattle.std.specs.Prelude.{Result, Ok, Err}
use Rattle.pp_macros.specs.Item.{is_out_of_memory}
use Rattle.pp_model.specs.Places.{Fault}
use Rattle.pp_model.specs.Run.{add_define, include, items_by, content_tokens}
use Rattle.pp_rs.specs.Adding.{IsAdded, refused, faulty, added}
use Rattle.pp_rs.specs.Including.{IsIncluded}
use Rattle.pp_rs.specs.Including as including
use Rattle.pp_rs.specs.Kept.{Preprocessing, rules_of}
use Rattle.pp_rs.specs.PreprocessorError.{out_of_memory}
use Rattle.pp_rs.specs.declared.token.Token.{Token}
use Rattle.pp_c.specs.Streams.{Log, Streaming, HasMade, Defines, MakesCall, fault_of, answers_read}
use Rattle.pp_c.specs.inner.Making.{Made}
use Rattle.pp_c.specs.inner.Making as made
use Rattle.pp_c.proofs.MadeLemmas.{made_rules}
use Rattle.pp_c.proofs.StreamLemmas.{call_made}

-- a definition was added, or has this fault
record AddsCall (name content : List ℕ) (fault : Option Fault) (old new : Preprocessing) : Type 0 where
  pub made : Made old (add_define name content ∷ []) [] new
  pub reply : Result (List Token) Fault
  pub has : content_tokens (items_by (rules_of old) content) ≡ reply
  pub is : fault ≡ fault_of reply

module _ (name content : List ℕ) (old new : Preprocessing) where
  added_call : IsAdded old name content (Ok tt) new → AddsCall name content None old new
  added_call (refused given same) = cc
  added_call (faulty fault has given same) = cc
  added_call (added tokens has given h) = record {
    made = made.added name content tokens old new new [] _ [] has h (made.none new new [] [] refl refl refl) refl;
    reply = Ok tokens;
    has = has;
    is = refl;
  }

  refused_call : (fault : Fault) → is_out_of_memory fault.0 ≡ false → IsAdded old name content (Err fault) new → AddsCall name content (Some fault) old new
  refused_call fault reported (refused given same) =
      let wanted : fault ≡ out_of_memory = cc in
      let bad : true ≡ false = sym (ap (λ (f : Fault). is_out_of_memory f.0) wanted) ∙ reported in
      cc
  refused_call fault reported (faulty other has given same) =
      let this : other ≡ fault = cc in
      let it : content_tokens (items_by (rules_of old) content) ≡ Err fault = has ∙ ap (λ (f : Fault). Err f) this in
      record {
        made = made.refused name content fault old new [] _ [] it (made.none old new [] [] refl refl same) refl;
        reply = Err fault;
        has = it;
        is = refl;
      }
  refused_call fault reported (added tokens has given h) = cc

included_call : (text : List ℕ) (old new : Preprocessing) → IsIncluded old text (Ok tt) new → Made old (include text ∷ []) [] new
included_call text old new (including.refused given same) = cc
included_call text old new (including.too_deep full given same) = cc
included_call text old new (including.included given h) =
    made.included text old new new [] _ [] h (made.none new new [] [] refl refl refl) refl

-- the rules are those of the source
rules_stay : (log : Log) (stream : Streaming) → stream.ran_out ≡ None → HasMade log stream → rules_of stream.preprocessing ≡ log.rules
rules_stay log stream ready h =
    ap rules_of (h.goes_on ready) ∙ made_rules h.reached.begun h.last log.calls (answers_read log stream) h.reached.made ∙ h.reached.rules_are

module _ (old new : Streaming) (ready : old.ran_out ≡ None) (waiting : new.waiting ≡ old.waiting) (ran_out : new.ran_out ≡ old.ran_out)
    (bounded : new.is_bounded ≡ old.is_bounded) where
  defines_by : (name content : List ℕ) (fault : Option Fault) → AddsCall name content fault old.preprocessing new.preprocessing → Defines name content fault old new
  defines_by name content fault h = record {
    makes = call_made (add_define name content) old new ready h.made waiting ran_out bounded;
    reply = λ log made. h.is ∙ ap fault_of (sym h.has ∙ ap (λ rules. content_tokens (items_by rules content)) (rules_stay log old ready made));
  }

  pub defines_added : (name content : List ℕ) → IsAdded old.preprocessing name content (Ok tt) new.preprocessing → Defines name content None old new
  defines_added name content h = defines_by name content None (added_call name content old.preprocessing new.preprocessing h)

  pub defines_refused : (name content : List ℕ) (fault : Fault) → is_out_of_memory fault.0 ≡ false
      → IsAdded old.preprocessing name content (Err fault) new.preprocessing → Defines name content (Some fault) old new
  defines_refused name content fault reported h =
      defines_by name content (Some fault) (refused_call name content old.preprocessing new.preprocessing fault reported h)

  pub includes_text : (text : List ℕ) → IsIncluded old.preprocessing text (Ok tt) new.preprocessing → MakesCall (include text) old new
  includes_text text h =
      call_made (include text) old new ready (included_call text old.preprocessing new.preprocessing h) waiting ran_out bounded
