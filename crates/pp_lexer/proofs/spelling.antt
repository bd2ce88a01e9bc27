pub mod SpelledWordLemmas
pub mod SuffixSpellingLemmas
pub mod FloatSpellingLemmas
pub mod SpelledTextLemmas
pub mod RespellingLemmas
pub mod NumberSpelledLemmas
pub mod SpelledValuesLemmas
pub mod ItemTextLemmas
