mod DeskSteps
mod Passes
mod TallySteps
