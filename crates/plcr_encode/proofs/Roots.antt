-- The fields of a whole report, part by part.
use Rattle.std.proofs.Common.{◌≡◌, ℕ, ◌+◌, List, ◌++◌, length, refl, append-nil, length-append, arith}
use Rattle.plcr_wire.specs.Message.{field_spelling, spelling}
use Rattle.plcr_memory.specs.Regions.{Contents}
use Rattle.plcr_regs.specs.declared.registers.Registers.{Registers}
use Rattle.plcr_macho.specs.Images.{Listed}
use Rattle.plcr_report.specs.Messages.{system_message, application_message, thread_message, image_message, signal_message, process_message, info_message, report_message}
use Rattle.plcr_encode.specs.declared.context.Context.{Context}
use Rattle.plcr_encode.specs.Images.{images_of}
use Rattle.plcr_encode.specs.inner.Rows.{message_field, message_fields}
use Rattle.plcr_encode.specs.Values.{system_of, application_of, signal_of, process_of, info_of, threads_of, report_of, process_report}
use Rattle.plcr_encode.proofs.Rows.{fields-each, spelling-append}

pub spelling-report : (context : Context) (threads : List Registers) (memory : Contents) (listed : List Listed) → spelling (report_message (process_report context threads memory listed)) ≡
    field_spelling (message_field 1 (system_message (system_of context)))
    ++ (field_spelling (message_field 2 (application_message (application_of context)))
    ++ (spelling (message_fields 3 thread_message (threads_of memory listed context threads))
    ++ (spelling (message_fields 4 image_message (images_of memory context.arch listed))
    ++ (field_spelling (message_field 6 (signal_message (signal_of context)))
    ++ (field_spelling (message_field 7 (process_message (process_of context)))
    ++ field_spelling (message_field 9 (info_message (info_of context))))))))
unfolding report_message report_of
spelling-report context threads memory listed = simp (fields-each, append-nil, spelling-append) refl

-- the length of seven pieces
pub length-seven : (a b c d e f g : List ℕ) → length (a ++ (b ++ (c ++ (d ++ (e ++ (f ++ g)))))) ≡ length a + length b + length c + length d + length e + length f + length g
length-seven a b c d e f g = rw (length-append a (b ++ (c ++ (d ++ (e ++ (f ++ g))))), length-append b (c ++ (d ++ (e ++ (f ++ g)))), length-append c (d ++ (e ++ (f ++ g))), length-append d (e ++ (f ++ g)), length-append e (f ++ g), length-append f g) (omega arith)
