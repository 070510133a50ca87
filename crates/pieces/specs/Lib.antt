pub mod Fragments
