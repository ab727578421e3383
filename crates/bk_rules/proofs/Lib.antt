pub mod AnswersAgree
