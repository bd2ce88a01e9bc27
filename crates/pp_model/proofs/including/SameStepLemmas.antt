-- What an effect does to two readers that are related and whose facts are the same: it gives alike, and leaves related readers.
use Rattle.std.proofs.Common.{◌≡◌, ◌∙◌, ℕ, pos, ◌-ℤ◌, ℤ, Bool, true, false, if◌then◌else◌, List, refl, sym, ap, subst, Option, Some, None, inl, inr}
use Rattle.std.specs.Prelude.{Result, Ok, Err, is_some}
use Rattle.pp_lexer.specs.declared.token.Location.{Location}
use Rattle.pp_lexer.specs.declared.token.PreprocessorError.TheVariants.{DefineRedefined}
use Rattle.pp_lexer.specs.declared.token.Token.{Token}
use Rattle.pp_model.specs.Acts.{Acted, pause_at, outcome_at, advanced_by, decided, defined_in, effect_on}
use Rattle.pp_model.specs.Calls.{Answers}
use Rattle.pp_model.specs.Definitions.{Definition, Definitions, with_change, IsSameDefinition}
use Rattle.pp_model.specs.LineValues.{IsCondition, IsLineNumber}
use Rattle.pp_model.specs.Moves.{Effect, gives, gives_item, asks, fails, ends, passes, defines, undefines, tests, decides, renumbers}
use Rattle.pp_model.specs.Names.{Name, is_same_name}
use Rattle.pp_model.specs.Numbering.{list_numbering}
use Rattle.pp_model.specs.Painting.{taken_of}
use Rattle.pp_model.specs.Places.{PlacedFault, in_text, placed, unasked}
use Rattle.pp_model.specs.Reads.{numbered_line, Defines, Evaluated, Does}
use Rattle.pp_model.specs.SourceReader.{SourceReader, had_text, is_first_directive}
use Rattle.pp_model.specs.inner.Alike.{Both, AlikePlace, AlikeTaken, AlikeDefinition, AlikeDefinitions, AlikeResult}
use Rattle.pp_model.specs.declared.definition.Named.{Named}
use Rattle.pp_model.specs.declared.numbering.Numbering.{Numbering}
use Rattle.pp_model.specs.declared.outcome.Outcome.{Outcome}
use Rattle.pp_model.specs.declared.outcome.Outcome.TheVariants as outcome
use Rattle.pp_model.specs.declared.place.Place.{Place}
use Rattle.pp_model.specs.declared.read.Taken.{Taken}
use Rattle.pp_model.specs.declared.read.Taken.TheVariants as taken
use Rattle.pp_model.specs.declared.step.Step.TheVariants as step

-- the line of an `#if` hangs on no text
abbrev pub AlikeConditions : Answers → Type 0
AlikeConditions A =
    (place place2 : Place) (tokens : List Token) (numbering : Numbering) (definitions definitions2 : Definitions) (result : Result Bool PlacedFault)
    → AlikePlace place place2
    → AlikeDefinitions definitions definitions2
    → IsCondition A place tokens numbering definitions result
    → (result2 : Result Bool PlacedFault) × IsCondition A place2 tokens numbering definitions2 result2 × AlikeResult (λ x y. x ≡ y) result result2

-- nor does that of a `#line`
abbrev pub AlikeNumbers : Answers → Type 0
AlikeNumbers A =
    (place place2 : Place) (tokens : List Token) (numbering : Numbering) (definitions definitions2 : Definitions) (result : Result ℕ PlacedFault)
    → AlikePlace place place2
    → AlikeDefinitions definitions definitions2
    → IsLineNumber A place tokens numbering definitions result
    → (result2 : Result ℕ PlacedFault) × IsLineNumber A place2 tokens numbering definitions2 result2 × AlikeResult (λ x y. x ≡ y) result result2

-- one change keeps definitions alike
alike_if : (b : Bool) (x y c d : Option Definition) → Both AlikeDefinition x y → Both AlikeDefinition c d
    → Both AlikeDefinition (if b then c else x) (if b then d else y)
alike_if true x y c d old new = new
alike_if false x y c d old new = old

pub alike_change : (x y : Definitions) (name : Name) (c d : Option Definition) → AlikeDefinitions x y → Both AlikeDefinition c d
    → AlikeDefinitions (with_change x name c) (with_change y name d)
alike_change x y name c d old new other = alike_if (is_same_name other name) (x other) (y other) c d (old other) new

-- both are defined, or neither
alike_some : (x y : Option Definition) → Both AlikeDefinition x y → is_some x ≡ is_some y
alike_some None None both = refl
alike_some (Some x) (Some y) both = refl
alike_some None (Some y) both = absurd both
alike_some (Some x) None both = absurd both

-- what two texts give by one outcome
alike_outcome : (text text2 : ℕ) (x : Outcome) → AlikeTaken (taken_of text x) (taken_of text2 x)
alike_outcome text text2 (outcome.Token token) = (refl, refl)
alike_outcome text text2 (outcome.Fault fault) = (refl, (refl, refl))
alike_outcome text text2 (outcome.Include line) = (refl, (refl, refl))
alike_outcome text text2 outcome.End = tt

-- definitions that are alike say the same of a third
same_definition : (old old2 : Definition) (new new2 : Definition) → AlikeDefinition old old2 → AlikeDefinition new new2 → IsSameDefinition old new
    → IsSameDefinition old2 new2
same_definition old old2 new new2 a b same = record {
  kind = sym a.0 ∙ same.kind ∙ b.0;
  parameters = sym a.1 ∙ same.parameters ∙ b.1;
  body = rw (sym a.2, sym b.2) same.body;
}

turned : (x y : Definition) → AlikeDefinition x y → AlikeDefinition y x
turned x y a = (sym a.0, sym a.1, sym a.2)

module _ (A : Answers) (conditions : AlikeConditions A) (numbers : AlikeNumbers A) (Related : SourceReader → SourceReader → Type 0) where
  -- the second reader follows: its step gives alike, and leaves a related reader
  pub record Followed (s : SourceReader) (did : Acted) (o : Option Taken) (t : SourceReader) : Type 0 where
    pub given : Option Taken
    pub reader : SourceReader
    pub does : Does A s did.step did.after given reader
    pub alike : Both AlikeTaken o given
    pub related : Related t reader

  -- what is known of the two readers, if an effect takes `count` items
  pub record KnownSame (r s : SourceReader) (count : ℕ) : Type 0 where
    pub here : Related r s
    pub rules : r.rules ≡ s.rules
    pub offset : r.line_offset ≡ s.line_offset
    pub definitions : AlikeDefinitions r.definitions s.definitions
    pub text : had_text r ≡ had_text s
    pub first : is_first_directive r ≡ is_first_directive s
    pub changed : (d d2 : Definitions) → AlikeDefinitions d d2
        → Related (record (advanced_by count r) { definitions = d }) (record (advanced_by count s) { definitions = d2 })
    pub after_condition : (holds : Bool) → Related (decided r.position holds (advanced_by count r)) (decided s.position holds (advanced_by count s))

  module _ (r s : SourceReader) (count : ℕ) (known : KnownSame r s count) (o : Option Taken) (t : SourceReader) where
    after_both : Related (advanced_by count r) (advanced_by count s)
    after_both = known.changed r.definitions s.definitions known.definitions

    same_numbering : list_numbering r.rules r.line_offset ≡ list_numbering s.rules s.line_offset
    same_numbering = rw (known.rules, known.offset) refl

    pub passed : (r2 s2 : SourceReader) → Related r2 s2 → Does A r step.Passed r2 o t → Followed s (pause_at s2) o t
    passed r2 s2 related d = record {
      given = None;
      reader = s2;
      does = (refl, refl);
      alike = rw d.0 tt;
      related = rw d.1 related;
    }

    pub given : (x y : Outcome) (r2 s2 : SourceReader) → x ≡ y → Related r2 s2 → Does A r (step.Given x) r2 o t → Followed s (outcome_at y s2) o t
    given x y r2 s2 same related d = record {
      given = Some (taken_of s.text y);
      reader = s2;
      does = (refl, refl);
      alike = rw (d.0, sym same) (alike_outcome r.text s.text x);
      related = rw d.1 related;
    }

    defined : (named : Named) (old old2 : Option Definition) → Both AlikeDefinition old old2
        → Defines r.text (defined_in r.text named) old (advanced_by count r) o t
        → (p : Option Taken) × (u : SourceReader) × Defines s.text (defined_in s.text named) old2 (advanced_by count s) p u × Both AlikeTaken o p × Related t u
    defined named None None both d = (
      None,
      _,
      (refl, refl),
      rw d.0 tt,
      rw d.1 (known.changed _ _ (alike_change r.definitions s.definitions named.name (Some (defined_in r.text named).definition) (Some (defined_in s.text named).definition) known.definitions (refl, refl, refl))),
    )
    defined named (Some old) (Some old2) both (at, inl (same, none)) = (
      None,
      advanced_by count s,
      (refl, inl (same_definition old old2 (defined_in r.text named).definition (defined_in s.text named).definition both (refl, refl, refl) same, refl)),
      rw none tt,
      rw at after_both,
    )
    defined named (Some old) (Some old2) both (at, inr (other, fault)) = (
      Some (taken.Fault (placed s.text (DefineRedefined, named.location))),
      advanced_by count s,
      (refl, inr ((λ same. other (same_definition old2 old (defined_in s.text named).definition (defined_in r.text named).definition (turned old old2 both) (refl, refl, refl) same)), refl)),
      rw fault (refl, (refl, refl)),
      rw at after_both,
    )
    defined named None (Some old2) both d = absurd both
    defined named (Some old) None both d = absurd both

    evaluated : {V : Type 0} (value value2 : Result V PlacedFault) (after after2 : V → SourceReader) → ((v : V) → Related (after v) (after2 v))
        → AlikeResult (λ x y. x ≡ y) value value2
        → Evaluated value after r o t
        → (p : Option Taken) × (u : SourceReader) × Evaluated value2 after2 s p u × Both AlikeTaken o p × Related t u
    evaluated (Ok v) (Ok w) after after2 related same d =
        (None, after2 w, (refl, refl), rw d.0 tt, rw (d.1, sym same) (related v))
    evaluated (Err f) (Err g) after after2 related same d =
        (Some (taken.Fault (unasked g)), s, (refl, refl), rw d.0 (same.0, (same.1.0, refl)), rw d.1 known.here)
    evaluated (Ok v) (Err g) after after2 related same d = absurd same
    evaluated (Err f) (Ok w) after after2 related same d = absurd same

    -- an effect that neither ends the text nor, if that makes a difference, numbers lines
    pub same_effect : (e : Effect) → (e ≡ ends → ⊥)
        → ((word : Location) (tokens : List Token) (offset : ℤ) → e ≡ renumbers word tokens
        → Related (record (advanced_by count r) { line_offset = offset }) (record (advanced_by count s) { line_offset = offset }))
        → Does A r (effect_on e r (advanced_by count r)).step (effect_on e r (advanced_by count r)).after o t
        → Followed s (effect_on e s (advanced_by count s)) o t
    same_effect (gives token) going numbered d = given _ _ _ _ refl after_both d
    same_effect (gives_item value word) going numbered d =
        given (outcome.Token (record { value = value (had_text r) (is_first_directive r); location = word }))
        (outcome.Token (record { value = value (had_text s) (is_first_directive s); location = word })) (advanced_by count r) (advanced_by count s)
        (ap (λ b. outcome.Token (record { value = value b (is_first_directive r); location = word })) known.text
        ∙ ap (λ b. outcome.Token (record { value = value (had_text s) b; location = word })) known.first) after_both d
    same_effect (asks line) going numbered d = given _ _ _ _ refl after_both d
    same_effect (fails fault) going numbered d = given _ _ _ _ refl known.here d
    same_effect ends going numbered d = absurd (going refl)
    same_effect passes going numbered d = passed _ _ after_both d
    same_effect (defines named) going numbered d =
        let f = defined named (r.definitions named.name) (s.definitions named.name) (known.definitions named.name) d in
        record { given = f.0; reader = f.1; does = f.2; alike = f.3; related = f.4 }
    same_effect (undefines name) going numbered d =
        passed _ _ (known.changed _ _ (alike_change r.definitions s.definitions name None None known.definitions tt)) d
    same_effect (tests holds name) going numbered d =
        passed (decided r.position (holds (is_some (r.definitions name))) (advanced_by count r)) (decided s.position (holds (is_some (s.definitions name))) (advanced_by count s))
        (rw (alike_some (r.definitions name) (s.definitions name) (known.definitions name)) (known.after_condition (holds (is_some (s.definitions name))))) d
    same_effect (decides word tokens) going numbered d =
        let c = conditions (in_text r.text word) (in_text s.text word) tokens (list_numbering r.rules r.line_offset) r.definitions s.definitions d.0 (refl, refl) known.definitions d.1 in
        let f = evaluated d.0 c.0 (λ holds. decided r.position holds (advanced_by count r)) (λ holds. decided s.position holds (advanced_by count s)) known.after_condition c.2 d.2 in
        let there : IsCondition A (in_text s.text word) tokens (list_numbering s.rules s.line_offset) s.definitions c.0 =
        subst (λ (n : Numbering). IsCondition A (in_text s.text word) tokens n s.definitions c.0) same_numbering c.1 in
        record { given = f.0; reader = f.1; does = (c.0, there, f.2); alike = f.3; related = f.4 }
    same_effect (renumbers word tokens) going numbered d =
        let c = numbers (in_text r.text word) (in_text s.text word) tokens (list_numbering r.rules r.line_offset) r.definitions s.definitions d.0 (refl, refl) known.definitions d.1 in
        let f = evaluated d.0 c.0 (λ n. record (advanced_by count r) { line_offset = pos n -ℤ pos (numbered_line r.rules word.line) })
        (λ n. record (advanced_by count s) { line_offset = pos n -ℤ pos (numbered_line s.rules word.line) })
        (λ n. subst (λ (offset : ℤ). Related (record (advanced_by count r) { line_offset = offset })
        (record (advanced_by count s) { line_offset = pos n -ℤ pos (numbered_line s.rules word.line) }))
        (ap (λ rules. pos n -ℤ pos (numbered_line rules word.line)) (sym known.rules))
        (numbered word tokens (pos n -ℤ pos (numbered_line s.rules word.line)) refl)) c.2 d.2 in
        let there : IsLineNumber A (in_text s.text word) tokens (list_numbering s.rules s.line_offset) s.definitions c.0 =
        subst (λ (n : Numbering). IsLineNumber A (in_text s.text word) tokens n s.definitions c.0) same_numbering c.1 in
        record { given = f.0; reader = f.1; does = (c.0, there, f.2); alike = f.3; related = f.4 }
