pub mod NotCall
