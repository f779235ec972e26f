pub mod Holding
pub mod AnswersAgain
