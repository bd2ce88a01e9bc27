pub mod OperandCases
pub mod OperandLemmas
pub mod WordLemmas
pub mod LineWordsLemmas
pub mod LineValueLemmas
pub mod LineExpressionLemmas
