pub mod NeedReplies
