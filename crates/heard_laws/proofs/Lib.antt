pub mod OneSpeech
pub mod OneHeard
pub mod OneJournal
pub mod Telling
pub mod GivenBack
pub mod RunGivesBack
pub mod Compared
