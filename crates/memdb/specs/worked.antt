pub mod MadeInput
