mod WorkedHeads
mod WorkedHistories
