pub mod FileLemmas
