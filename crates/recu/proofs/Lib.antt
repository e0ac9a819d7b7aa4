mod AnswerLemmas
mod AnswerExamples
mod StartLemmas
