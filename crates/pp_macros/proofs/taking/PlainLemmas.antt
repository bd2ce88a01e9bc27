-- A list of tokens that give themselves expands to itself.
use Rattle.std.proofs.Common.{◌≡◌, ◌∙◌, sym, ap, take, drop, ◌-◌, le_trans, ◌||◌, ◌+◌, ◌≤◌, ℕ, Bool, true, false, not, ◌&&◌, List, [], ◌∷◌, length, refl, Option, Some, None, Ok}
use Rattle.std.specs.Prelude.{if◌then◌else◌, is_none}
use Rattle.std.proofs.lemmas.Bool.{and_parts, not-true}
use Rattle.std.proofs.lemmas.List.{take-append-drop}
use Rattle.std.proofs.lemmas.List.Elements.{All-weaker}
use Rattle.std.proofs.lemmas.List.Folds.{list_all-append}
use Rattle.std.specs.List.{list_all}
use Rattle.pp_model.specs.declared.read.Read.{Read}
use Rattle.pp_model.specs.Painting.{is_one_of}
use Rattle.pp_lexer.specs.declared.token.TokenValue.{TokenValue}
use Rattle.pp_lexer.specs.declared.token.TokenValue.TheVariants.{Ident}
use Rattle.pp_model.specs.Names.{Name, is_same_name, is_identifier, line_name}
use Rattle.pp_model.specs.Definitions.{Definition}
use Rattle.pp_model.specs.Reading.{Expander, Listed, opening_of, argument_reading, reading_of}
use Rattle.pp_model.specs.inner.Reading.{opening_by}
use Rattle.pp_model.specs.Taking as taking
use Rattle.pp_model.specs.Taking.{Takes}
use Rattle.pp_model.specs.Calls.{Answers}
use Rattle.pp_model.specs.Emitting.{itself, Collects, done, item, Alone, Each, none, more, answers_at}
use Rattle.pp_model.specs.declared.read.Taken.TheVariants as given
use Rattle.pp_macros.specs.inner.Defined.{Defined, meaning_of, body_tokens}
use Rattle.pp_macros.specs.declared.argument_lists.Part.{Part}
use Rattle.pp_macros.specs.inner.Finishing.{AreShort}
use Rattle.pp_macros.specs.inner.Left.{most_alone}
use Rattle.pp_macros.specs.inner.Parts.{list_of, lists_of}
use Rattle.pp_macros.specs.inner.Reach.{frame_steps, growth}
use Rattle.pp_macros.specs.inner.Plain.{gives_itself, is_plain, is_plain_value}
use Rattle.pp_macros.proofs.work.IterateLemmas.{iterate_up}
use Rattle.pp_macros.proofs.work.ReachLemmas.{grown_up}
use Rattle.pp_model.specs.declared.numbering.Numbering.{Numbering}

unopened : (read : Read) (name : Name) (o : Option Definition) → is_none o ≡ true → opening_by read name o ≡ None
unopened read name None e = refl
unopened read name (Some definition) e = cc

-- unpainted it gives itself where no macro is open
plain_itself : (definitions : List Defined) (hidden : List Name) (value : TokenValue) → is_plain_value definitions hidden false value ≡ true
    → gives_itself definitions value ≡ true
plain_itself definitions hidden value e = (and_parts (gives_itself definitions value) (not (is_one_of hidden value)) e).0

-- such a name isn't defined
pub plain_undefined : (definitions : List Defined) (hidden : List Name) (name : Name) → is_plain_value definitions hidden false (Ident name) ≡ true
    → is_none (meaning_of definitions name) ≡ true
plain_undefined definitions hidden name e =
    (and_parts (not (is_same_name name line_name)) (is_none (meaning_of definitions name)) (plain_itself definitions hidden (Ident name) e)).1

no_opening : (definitions : List Defined) (hidden : List Name) (painted : Bool) (read : Read) (name : Name)
    → is_plain_value definitions hidden painted (Ident name) ≡ true
    → (if painted then None else opening_by read name (meaning_of definitions name)) ≡ None
no_opening definitions hidden true read name e = refl
no_opening definitions hidden false read name e = unopened read name (meaning_of definitions name) (plain_undefined definitions hidden name e)

-- a value that gives itself is no `__LINE__`
pub itself_apart : (definitions : List Defined) (value : TokenValue) → gives_itself definitions value ≡ true → is_identifier line_name value ≡ false
itself_apart definitions (Ident name) e = not-true (is_same_name name line_name)
    (and_parts (not (is_same_name name line_name)) (is_none (meaning_of definitions name)) e).0
itself_apart definitions _ e = refl

-- such a value is no `__LINE__`
pub plain_apart : (definitions : List Defined) (hidden : List Name) (painted : Bool) (value : TokenValue) → is_plain_value definitions hidden painted value ≡ true
    → is_identifier line_name value ≡ false
plain_apart definitions hidden true value e = not-true (is_identifier line_name value) e
plain_apart definitions hidden false value e = itself_apart definitions value (plain_itself definitions hidden value e)

-- it keeps its paint
pub plain_paint : (definitions : List Defined) (hidden : List Name) (painted : Bool) (value : TokenValue) → is_plain_value definitions hidden painted value ≡ true
    → (painted || is_one_of hidden value) ≡ painted
plain_paint definitions hidden true value e = refl
plain_paint definitions hidden false value e =
    not-true (is_one_of hidden value) (and_parts (gives_itself definitions value) (not (is_one_of hidden value)) e).1

-- and opens nothing
plain_opens : (numbering : Numbering) (definitions : List Defined) (hidden : List Name) (rest : List Read) (read : Read) (value : TokenValue)
    → is_plain_value definitions hidden read.painted value ≡ true
    → opening_of argument_reading (reading_of rest numbering (meaning_of definitions) hidden) read value ≡ None
plain_opens numbering definitions hidden rest read (Ident name) e =
    no_opening definitions hidden read.painted read name e
plain_opens numbering definitions hidden rest read _ e = refl

plain_takes : (numbering : Numbering) (definitions : List Defined) (hidden : List Name) (read : Read) (rest : List Read) → is_plain definitions hidden read ≡ true
    → Takes argument_reading (reading_of (read ∷ rest) numbering (meaning_of definitions) hidden) (given.Token read) (reading_of rest numbering (meaning_of definitions) hidden)
plain_takes numbering definitions hidden read rest e =
    let e0 : Expander Listed = reading_of (read ∷ rest) numbering (meaning_of definitions) hidden in
    let e1 : Expander Listed = reading_of rest numbering (meaning_of definitions) hidden in
    record {
      first = given.Token read;
      fetches = taking.read (given.Token read) (given.Token read) e1.reader e0 e1 refl refl (refl, refl)
          (rw (plain_apart definitions hidden read.painted read.token.value e) refl) refl;
      paints = ap (λ (b : Bool). given.Token (record read { painted = b }))
          (sym (plain_paint definitions hidden read.painted read.token.value e));
    }

plain_collects : (A : Answers) (numbering : Numbering) (definitions : List Defined) (hidden : List Name) (tokens : List Read)
    → list_all (is_plain definitions hidden) tokens ≡ true
    → Collects argument_reading A (reading_of tokens numbering (meaning_of definitions) hidden) (Ok tokens)
plain_collects A numbering definitions hidden [] e =
    let e0 : Expander Listed = reading_of [] numbering (meaning_of definitions) hidden in
    done e0 e0 (Ok []) (itself given.End given.End e0 e0 (record {
      first = given.End;
      fetches = taking.read given.End given.End e0.reader e0 e0 refl refl (refl, refl) refl refl;
      paints = refl;
    }) refl refl) refl
plain_collects A numbering definitions hidden (read ∷ rest) e =
    let e0 : Expander Listed = reading_of (read ∷ rest) numbering (meaning_of definitions) hidden in
    let e1 : Expander Listed = reading_of rest numbering (meaning_of definitions) hidden in
    let h = and_parts (is_plain definitions hidden read) (list_all (is_plain definitions hidden) rest) e in
    item read (Ok rest) (Ok (read ∷ rest)) e0 e1
    (itself (given.Token read) (given.Token read) e0 e1 (plain_takes numbering definitions hidden read rest h.0)
    (plain_opens numbering definitions hidden rest read read.token.value h.0) refl)
    (plain_collects A numbering definitions hidden rest h.1) refl

-- tokens that give themselves, alone
pub plain_alone : (levels : ℕ) (numbering : Numbering) (definitions : List Defined) (hidden : List Name) (tokens : List Read)
    → list_all (is_plain definitions hidden) tokens ≡ true
    → Alone levels tokens numbering (meaning_of definitions) hidden (Ok tokens)
plain_alone levels numbering definitions hidden tokens e =
    plain_collects (answers_at levels) numbering definitions hidden tokens e

-- tokens are no more than they may come to
pub plain_short : (levels : ℕ) (definitions : List Defined) (n : ℕ) → n ≤ most_alone levels definitions n
plain_short levels definitions n =
    let frame : ℕ → ℕ = frame_steps (body_tokens definitions) (length definitions + 1) levels in
    iterate_up (growth frame (length definitions + 1)) n (grown_up frame (length definitions + 1)) n

-- each part of such tokens has such tokens
plain_part : (test : Read → Bool) (tokens : List Read) (part : Part) → list_all test tokens ≡ true → list_all test (list_of tokens part) ≡ true
plain_part test tokens part e =
    let start : (list_all test (take part.start tokens) && list_all test (drop part.start tokens)) ≡ true =
    sym (list_all-append test (take part.start tokens) (drop part.start tokens)) ∙ ap (list_all test) (take-append-drop part.start tokens) ∙ e in
    let after : list_all test (drop part.start tokens) ≡ true =
    (and_parts (list_all test (take part.start tokens)) (list_all test (drop part.start tokens)) start).1 in
    let within : (list_all test (list_of tokens part) && list_all test (drop (part.end - part.start) (drop part.start tokens))) ≡ true =
    sym (list_all-append test (list_of tokens part) (drop (part.end - part.start) (drop part.start tokens)))
    ∙ ap (list_all test) (take-append-drop (part.end - part.start) (drop part.start tokens)) ∙ after in
    (and_parts (list_all test (list_of tokens part)) (list_all test (drop (part.end - part.start) (drop part.start tokens))) within).0

-- parts of such tokens, each alone
pub plain_each : (levels : ℕ) (numbering : Numbering) (definitions : List Defined) (hidden : List Name) (tokens : List Read) (parts : List Part)
    → list_all (is_plain definitions hidden) tokens ≡ true
    → Each (Alone levels) numbering (meaning_of definitions) hidden (lists_of tokens parts) (Ok (lists_of tokens parts))
plain_each levels numbering definitions hidden tokens [] e = none (Ok []) refl
plain_each levels numbering definitions hidden tokens (part ∷ parts) e =
    more (list_of tokens part) (list_of tokens part) (lists_of tokens parts) (Ok (lists_of tokens parts)) (Ok (lists_of tokens (part ∷ parts)))
    (plain_alone levels numbering definitions hidden (list_of tokens part) (plain_part (is_plain definitions hidden) tokens part e))
    (plain_each levels numbering definitions hidden tokens parts e) refl

-- lists that come to themselves are no longer than they may be
pub plain_are_short : (levels : ℕ) (definitions : List Defined) (lists : List (List Read)) → AreShort levels definitions lists lists
plain_are_short levels definitions lists n all =
    All-weaker (λ (list : List Read). length list ≤ n) (λ (list : List Read). length list ≤ most_alone levels definitions n)
    (λ list few. le_trans few (plain_short levels definitions n)) lists all
