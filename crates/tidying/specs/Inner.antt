pub mod PairSearches
