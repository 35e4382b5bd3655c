mod DueOnce
mod Flaws
mod ReadLemmas
mod Tables
