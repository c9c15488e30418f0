-- FromStart    a session that has taken a whole text since its start: what the record of the text says
pub mod FromStart
