mod PairLaws
mod SetLaws
mod CutLaws
mod JoinLaws
mod Rows
