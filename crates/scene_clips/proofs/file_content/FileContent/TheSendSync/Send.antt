-- What owns nothing may go to another thread.
use denote.Param.Send.{IsSend, owning_send}
use Rattle.scene_clips.specs.contracts.file_content.FileContent.{the_row, the_type}

pub send : IsSend the_row
send = owning_send the_type tt (λ d. tt) (λ k x w. tt)
