pub mod SpelledRunLemmas
pub mod RespellLemmas
