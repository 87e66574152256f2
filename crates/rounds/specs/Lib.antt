-- One round: its course, its verdicts and its end; many rounds; and what the paper says of either.
pub mod Course
pub mod Verdicts
pub mod Ends
pub mod OneRound
pub mod History
pub mod ManyRounds
