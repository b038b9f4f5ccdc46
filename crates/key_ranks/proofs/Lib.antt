mod FrontSteps
mod RankSteps
mod TieSteps
