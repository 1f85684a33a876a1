-- Laws of an audit list's rules.
pub mod Rules
