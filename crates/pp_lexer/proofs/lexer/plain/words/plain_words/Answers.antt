use Rattle.std.proofs.Common.{sym, subst, ◌∙◌, arith}
use Rattle.std.specs.Str.{IsUtf8}
use Rattle.pp_lexer.specs.inner.Tame.{ArePlainWords}
use Rattle.pp_lexer.proofs.numbers.PlainNumbersLemmas.{length_whole}
use Rattle.pp_lexer.proofs.words.TameLemmas.{tame_utf8, front_shorter, last_begins, number_words, name_words, lone_words}
use Rattle.pp_lexer.proofs.lexer.plain.words.plain_words.Goals as goal

pub plain_number-requires : goal.plain_number-requires
plain_number-requires c =
    let bytes = c.as_bytes-bytes.result.now in
    let n = c.tame_front-front.result.length in
    subst IsUtf8 (sym (length_whole n bytes)) (tame_utf8 bytes n c.as_bytes-bytes.ensures.utf8 c.tame_front-front.ensures.tame)

pub returns-then-not-is_hash : goal.returns-then-not-is_hash
returns-then-not-is_hash c =
    let bytes = c.as_bytes-bytes.result.now in
    let n = c.tame_front-front.result.length in
    let front = c.tame_front-front.ensures in
    subst (λ t. ArePlainWords t (record { before = n; newlines = c.tame_front-front.result.newlines; taken = c.in-Some.number.taken }))
    c.as_bytes-bytes.ensures.value
    (number_words bytes _ n c.tame_front-front.result.newlines c.in-Some.number front.tame front.newlines
    (c.begins_number.ensures c.if-begins_number.true)
    (length_whole n bytes) c.in-Some.ensures (sym c.is_hash.ensures ∙ c.if-not-is_hash.true))

pub returns-then-is_lone : goal.returns-then-is_lone
returns-then-is_lone c =
    let bytes = c.as_bytes-bytes.result.now in
    let last = c.in_ok-last.ensures in
    subst (λ t. ArePlainWords t (record { before = c.in_ok-last.last.length; newlines = c.in_ok-last.last.newlines; taken = 1 }))
    c.as_bytes-bytes.ensures.value
    (lone_words bytes c.tame_front-front.result.length c.in_ok-last.last.length c.in_ok-last.last.newlines c.as_bytes-bytes.ensures.utf8
    c.tame_front-front.ensures.tame last.within (sym c.is_lone.ensures ∙ c.if-is_lone.true) last.newlines)

pub plain_identifier-requires-clause-utf8 : goal.plain_identifier-requires-clause-utf8
plain_identifier-requires-clause-utf8 c =
    let bytes = c.as_bytes-bytes.result.now in
    let n = c.tame_front-front.result.length in
    let m = c.in_ok-last.last.length in
    let below = c.in_ok-last.ensures.within in
    subst IsUtf8 (sym (length_whole m bytes)) (tame_utf8 bytes m c.as_bytes-bytes.ensures.utf8
    (front_shorter bytes m n (omega (arith, below)) c.tame_front-front.ensures.tame))

pub plain_identifier-requires-clause-begins : goal.plain_identifier-requires-clause-begins
plain_identifier-requires-clause-begins c =
    let bytes = c.as_bytes-bytes.result.now in
    let m = c.in_ok-last.last.length in
    last_begins bytes _ m c.in_ok-last.ensures.last (sym c.is_lone.ensures ∙ c.if-is_lone.false) (length_whole m bytes)

pub returns : goal.returns
returns c =
    let bytes = c.as_bytes-bytes.result.now in
    let n = c.tame_front-front.result.length in
    let m = c.in_ok-last.last.length in
    let last = c.in_ok-last.ensures in
    subst (λ t. ArePlainWords t (record { before = m; newlines = c.in_ok-last.last.newlines; taken = c.in_ok-name.name.taken }))
    c.as_bytes-bytes.ensures.value
    (name_words bytes _ n m c.in_ok-last.last.newlines c.in_ok-name.name c.tame_front-front.ensures.tame last.within last.last
    (sym c.is_lone.ensures ∙ c.if-is_lone.false) last.newlines (length_whole m bytes) c.in_ok-name.ensures
    (sym c.is_hash-2.ensures ∙ c.if-is_hash.false))
