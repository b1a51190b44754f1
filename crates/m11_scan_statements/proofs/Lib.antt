mod Folded
mod InOrder
mod NextLabels
mod Operands
