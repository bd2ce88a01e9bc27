pub mod Answers
pub mod Operators
pub mod Arithmetic
pub mod Trees
pub mod Lines
pub mod FirstFault
pub mod ExpressionLaws
pub mod inner
