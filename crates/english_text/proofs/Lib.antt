mod StepsTold
mod EndsRead
mod Pushed
mod BranchesTold
