pub mod EveryFormLaws
